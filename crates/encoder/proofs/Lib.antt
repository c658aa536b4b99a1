mod Rules
pub mod Unique
