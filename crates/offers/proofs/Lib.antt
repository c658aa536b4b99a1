-- Laws that belong to no one function.
pub mod Counted
pub mod Rise
pub mod Preserved
pub mod Alike
pub mod Newest
pub mod Unique
pub mod Skipped
