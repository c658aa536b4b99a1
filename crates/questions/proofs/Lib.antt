-- Laws that belong to no one function.
pub mod Answered
pub mod Left
pub mod Good
pub mod Unique
