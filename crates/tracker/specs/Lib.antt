pub mod Refusal
pub mod Table
pub mod Rest
pub mod Laws
pub mod Inner
