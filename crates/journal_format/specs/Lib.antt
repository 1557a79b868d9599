pub mod Limits
pub mod Spelling
pub mod Reading
pub mod Journals
pub mod Finding
pub mod Laws
