pub mod Values
pub mod RebirthLaws
