pub mod Packed
pub mod Reading
pub mod Kept
pub mod Unpacking
pub mod Fields
