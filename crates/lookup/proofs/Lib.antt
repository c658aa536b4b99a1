-- Laws that belong to no one function.
pub mod Taken
pub mod Place
pub mod Laws
pub mod Unique
