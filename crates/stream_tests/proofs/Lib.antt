pub mod PlayLaws
pub mod SameLaws
pub mod VerdictLaws
