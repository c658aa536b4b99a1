pub mod Log
pub mod Pairs
pub mod Rest
pub mod Laws
pub mod Inner
