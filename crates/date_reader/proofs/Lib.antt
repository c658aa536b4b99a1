-- Laws that belong to no one function.
mod Counted
pub mod Ends
pub mod Fractions
pub mod Written
