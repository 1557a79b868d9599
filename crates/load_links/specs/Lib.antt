pub mod Load
pub mod Limits
