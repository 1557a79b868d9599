pub mod Messages
pub mod Verdicts
pub mod Replies
pub mod Links
pub mod Runs
pub mod Legal
pub mod Laws
pub mod Examples
