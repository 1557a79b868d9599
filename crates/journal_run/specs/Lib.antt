pub mod Recorded
pub mod Resumed
pub mod Crashes
