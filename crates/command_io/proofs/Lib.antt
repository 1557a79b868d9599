pub mod BuildLaws
pub mod ConfigLaws
pub mod EndingLaws
pub mod FileLaws
pub mod ReadLaws
pub mod Sinks
