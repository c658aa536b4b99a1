pub mod Find
pub mod Found
pub mod Laws
