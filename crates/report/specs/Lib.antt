pub mod Lines
pub mod Listing
pub mod Dated
pub mod Inner
pub mod Thirds
