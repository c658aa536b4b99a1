pub mod Loading
pub mod Unique
pub mod Cut
pub mod Interval
