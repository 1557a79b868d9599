pub mod Summaries
pub mod Loads
pub mod Limits
pub mod Serves
