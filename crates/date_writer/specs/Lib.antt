pub mod DateText
pub mod Inner
