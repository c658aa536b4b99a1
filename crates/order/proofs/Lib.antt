-- Laws that belong to no one function.
pub mod Bools
pub mod First
pub mod Last
pub mod Order
pub mod Fours
pub mod Domain
pub mod Taken
