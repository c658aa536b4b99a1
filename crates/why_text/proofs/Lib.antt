-- Laws that belong to no one function.
mod Lengths
mod Rule
pub mod Unique
