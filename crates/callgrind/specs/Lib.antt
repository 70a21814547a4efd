pub mod File
pub mod Ended
pub mod Within
pub mod Reading
pub mod Claims
pub mod Proved
