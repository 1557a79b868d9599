pub mod StreamLemmas
pub mod ReadLemmas
pub mod FileLemmas
pub mod RuleLemmas
pub mod MarkLemmas
pub mod ScriptLemmas
pub mod PieceLemmas
pub mod CallLemmas
