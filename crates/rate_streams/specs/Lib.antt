pub mod Windows
pub mod Throttle
pub mod Batch
pub mod Stable
pub mod Rollup
