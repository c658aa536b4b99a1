pub mod Domain
pub mod Settings
