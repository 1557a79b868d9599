pub mod Varint
pub mod Fields
pub mod Spelling
pub mod Cause
pub mod InRow
pub mod ReadBack
