pub mod Inner
pub mod Input
