pub mod Lengths
pub mod Answers
mod Both
pub mod Unique
