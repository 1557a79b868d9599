pub mod SortLaws
pub mod TableLaws
pub mod CodeLaws
pub mod StreamLaws
pub mod GrammarRead
pub mod GrammarOnly
pub mod GrammarLaws
pub mod YieldLaws
