pub mod Inner
pub mod Place
pub mod Read
pub mod Write
