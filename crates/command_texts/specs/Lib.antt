pub mod Writing
pub mod Converts
pub mod Checks
pub mod Building
