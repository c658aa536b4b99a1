pub mod Signed
pub mod Extend
pub mod Inner
