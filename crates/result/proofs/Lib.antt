pub mod Variables
pub mod Records
pub mod Sizes
pub mod Injective
pub mod Theorems
