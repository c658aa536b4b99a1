pub mod Settle
pub mod Inner
