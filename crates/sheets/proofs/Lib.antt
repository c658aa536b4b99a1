-- Laws that belong to no one function.
mod Fill
mod Unique
pub mod Alike
