pub mod History
pub mod Coarse
pub mod Asked
pub mod Halving
