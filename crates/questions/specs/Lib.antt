pub mod Stands
pub mod Asked
pub mod Answered
pub mod Inner
