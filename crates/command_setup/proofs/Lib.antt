pub mod TextLaws
pub mod SetupLaws
pub mod FaultLaws
pub use Rattle.command_io.proofs.EndingLaws as CommandIoEndingLaws
pub use Rattle.command_io.proofs.ReadLaws as CommandIoReadLaws
pub use Rattle.command_io.proofs.Sinks as CommandIoSinks
