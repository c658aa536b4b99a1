-- Laws that belong to no one function.
pub mod Broken
pub mod Good
pub mod Rest
pub mod Kept
pub mod Unique
