pub mod Keys
pub mod Inner
