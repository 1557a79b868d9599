pub mod Endings
pub mod Lines
pub mod Given
pub mod Running
pub mod Stopping
pub mod Reading
pub mod RunsTests
