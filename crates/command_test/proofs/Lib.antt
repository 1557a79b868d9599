pub mod EndingLaws
pub mod LineLaws
pub mod RunLaws
pub mod FileLaws
pub mod CommandLaws
