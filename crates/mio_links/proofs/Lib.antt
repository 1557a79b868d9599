pub mod TurnLemmas
pub mod ReportLemmas
pub mod SilenceLemmas
pub mod DialLemmas
pub mod StreamLemmas
