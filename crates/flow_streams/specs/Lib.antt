pub mod Branch
pub mod Changed
pub mod Fold
pub mod Runs
