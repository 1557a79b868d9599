pub mod Quoting
pub mod Joining
pub mod Lines
