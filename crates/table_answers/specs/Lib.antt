pub mod Table
pub mod Crossing
