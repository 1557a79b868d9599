pub mod Key
pub mod Kept
pub mod Stored
