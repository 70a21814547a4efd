pub mod Contents
pub mod Promise
pub mod Encoding
pub mod Claims
pub mod Proved
