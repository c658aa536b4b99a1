pub mod Unique
pub mod Places
pub mod Room
