pub mod Told
pub mod Over
pub mod Room
