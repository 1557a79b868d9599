pub mod QuotingLemmas
pub mod JoiningLemmas
pub mod AppendedLemmas
