pub mod Alike
pub mod Restored
pub mod Run
pub mod Lists
pub mod Totals
