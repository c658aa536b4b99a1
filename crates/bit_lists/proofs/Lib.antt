pub mod Joined
pub mod Lists
pub mod Packing
pub mod Written
