pub mod Keys
pub mod Sections
