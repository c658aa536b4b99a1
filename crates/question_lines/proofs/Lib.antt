-- Laws that belong to no one function.
mod Tails
mod Written
pub mod Laws
