pub mod EndingLaws
pub mod CauseLaws
pub mod OpeningLaws
pub mod RecordLaws
pub mod ResumeLaws
