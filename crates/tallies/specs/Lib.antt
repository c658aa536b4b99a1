pub mod Tally
pub mod Inner
