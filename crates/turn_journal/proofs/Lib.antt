pub mod AppendLaws
pub mod BeginLaws
pub mod LoadLaws
