pub mod First
pub mod Order
pub mod Inner
