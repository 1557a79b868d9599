pub mod Tree
pub mod TreeCode
pub mod Wild
pub mod Search
pub mod Truth
pub mod Host
pub mod Building
