pub mod Digits
pub mod Ends
pub mod Names
pub mod Theorems
