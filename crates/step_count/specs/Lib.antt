pub mod Count
pub mod Runs
