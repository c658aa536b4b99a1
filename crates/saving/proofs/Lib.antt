pub mod Passing
pub mod Unique
