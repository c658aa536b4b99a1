pub mod Once
pub mod Codes
pub mod Runs
mod Head
