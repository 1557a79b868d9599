pub mod Words
pub mod Commands
pub mod Promises
pub mod Carrying
pub mod Indexed
