pub mod Standing
pub mod Judging
pub mod Telling
pub mod Written
pub mod Bytewise
pub mod Exact
pub mod Theorems
