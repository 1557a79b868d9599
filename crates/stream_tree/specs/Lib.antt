pub mod Ends
pub mod Forest
pub mod Fresh
pub mod Forks
pub mod Running
pub mod Tree
pub mod Unseen
