pub mod PassLaws
pub mod VectorLaws
pub use Rattle.rate_streams.proofs.BatchLaws as RateStreamsBatchLaws
pub use Rattle.rate_streams.proofs.RollupLaws as RateStreamsRollupLaws
pub use Rattle.rate_streams.proofs.ThrottleLaws as RateStreamsThrottleLaws
pub use Rattle.window_streams.proofs.CoalesceLaws as WindowStreamsCoalesceLaws
