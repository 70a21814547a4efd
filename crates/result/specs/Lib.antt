pub mod Encoding
pub mod Ended
pub mod Claims
pub mod Proved
