pub mod Keep
pub mod Inner
