pub mod Refusal
pub mod Read
pub mod Write
pub mod Laws
