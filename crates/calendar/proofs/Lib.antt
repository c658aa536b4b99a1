-- Laws that belong to no one function.
pub mod Parts
pub mod YearDays
pub mod Trip
mod Steps
pub mod Moments
mod Calls
pub mod Order
pub mod Laws
