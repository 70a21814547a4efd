pub mod Exported
pub mod Claims
pub mod Proved
