pub mod Signs
pub mod Wrapping
pub mod Widths
pub mod Unique
