pub mod Runs
pub mod Arrays
