pub mod Lengths
pub mod Following
pub mod Cut
pub mod Unique
pub mod Stored
