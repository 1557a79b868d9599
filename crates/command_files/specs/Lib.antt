pub mod Feeding
pub mod Feeds
pub mod Files
pub mod Runs
pub mod Scripts
pub mod Playing
pub mod Replays
