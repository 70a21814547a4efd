pub mod Decimal
pub mod Put
pub mod Names
pub mod Claims
pub mod Proved
