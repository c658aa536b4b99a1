pub mod Unique
mod Windows
