pub mod Reason
pub mod Why
pub mod Laws
pub mod Inner
