-- Laws that belong to no one function.
mod Parts
mod Facts
mod Told
pub mod Laws
pub mod Unique
