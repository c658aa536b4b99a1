-- Laws that belong to no one function.
mod Judged
mod Writing
pub mod Laws
pub mod Unique
