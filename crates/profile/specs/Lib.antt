pub mod Lines
pub mod Printed
pub mod Drawn
pub mod Rendered
pub mod Claims
pub mod Proved
