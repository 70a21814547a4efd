pub mod Words
pub mod Moves
pub mod Claims
pub mod Proved
