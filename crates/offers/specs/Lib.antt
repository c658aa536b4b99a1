pub mod Whole
pub mod Offer
pub mod Rest
pub mod Counted
pub mod Skipped
pub mod Inner
