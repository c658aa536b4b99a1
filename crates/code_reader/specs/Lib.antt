pub mod Refusal
pub mod Inner
