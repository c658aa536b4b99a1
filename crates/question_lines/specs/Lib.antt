pub mod Grammar
pub mod Line
pub mod Inner
pub mod Laws
