pub mod Lengths
pub mod VerdictLaws
pub mod AnswerLaws
pub mod FoundLaws
pub use Rattle.event_core.proofs.Moves as EventCoreMoves
pub use Rattle.hub_meaning.proofs.LinkLaws as HubMeaningLinkLaws
pub use Rattle.hub_meaning.proofs.PrefixLaws as HubMeaningPrefixLaws
pub use Rattle.hub_meaning.proofs.RunLaws as HubMeaningRunLaws
