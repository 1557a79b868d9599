pub mod Kept
pub mod VectorLaws
pub use Rattle.flow_streams.specs as flow_streams
pub use Rattle.rate_streams.specs as rate_streams
pub use Rattle.window_streams.specs as window_streams
