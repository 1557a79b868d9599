pub mod Endings
pub mod Reading
pub mod Opening
pub mod Running
pub mod Records
pub mod Resuming
pub mod Resumes
