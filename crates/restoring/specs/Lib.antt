pub mod Restore
pub mod Cut
pub mod Interval
