-- Laws that belong to no one function.
pub mod Fronts
pub mod Numbers
pub mod Readers
