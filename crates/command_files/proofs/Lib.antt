pub mod BytesLaws
pub mod FeedLaws
pub mod OtherLaws
pub mod RunLaws
pub mod ScriptLaws
pub mod PlayLaws
pub mod ReplayLaws
