pub mod Joined
pub mod Tabling
pub mod Verdicts
pub mod Records
pub mod Telling
pub mod Drawing
pub mod Theorems
