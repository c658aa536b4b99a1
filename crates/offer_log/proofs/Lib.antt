-- Laws that belong to no one function.
pub mod Run
pub mod Preserved
pub mod Records
pub mod Laws
pub mod Unique
