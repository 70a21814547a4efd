pub mod Words
pub mod Hex
pub mod Claims
pub mod Proved
