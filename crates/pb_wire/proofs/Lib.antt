pub mod VarintLaws
pub mod LoopLaws
pub mod Places
pub mod FieldLaws
pub mod CauseLaws
pub mod RowLaws
pub mod SpellingLaws
pub mod ReadBackLaws
