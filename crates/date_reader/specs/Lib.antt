pub mod Grammar
pub mod Fraction
pub mod Inner
