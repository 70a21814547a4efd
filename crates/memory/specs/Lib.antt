pub mod Scope
pub mod Layout
pub mod Posts
pub mod Abstract
pub mod Profile
