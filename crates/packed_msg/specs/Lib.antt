pub mod Sent
pub mod Parts
