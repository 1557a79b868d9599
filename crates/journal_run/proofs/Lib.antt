pub mod RunLaws
pub mod ResumeLaws
pub mod CrashLaws
