pub mod AddedLaws
pub mod LinkLaws
pub mod SendLaws
pub mod HearLaws
pub mod PartLaws
pub mod LoopLaws
pub mod UnsentLaws
pub use Rattle.msg_replies.proofs.EventCoreMoves
pub use Rattle.msg_replies.proofs.HubMeaningLinkLaws
pub use Rattle.msg_replies.proofs.HubMeaningPrefixLaws
pub use Rattle.msg_replies.proofs.HubMeaningRunLaws
pub use Rattle.msg_replies.proofs.AnswerLaws as MsgRepliesAnswerLaws
pub use Rattle.msg_replies.proofs.VerdictLaws as MsgRepliesVerdictLaws
