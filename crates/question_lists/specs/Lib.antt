pub mod Each
pub mod Inner
