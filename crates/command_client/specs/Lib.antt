pub mod Replies
pub mod Endings
pub mod Exchanges
pub mod Queries
pub mod Sends
pub mod Asks
