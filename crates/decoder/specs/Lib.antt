pub mod Decode
pub mod Following
pub mod Cut
