pub mod Names
pub mod Words
pub mod Lines
pub mod Frames
pub mod Reading
pub mod Spans
pub mod Examples
