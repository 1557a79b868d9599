pub mod Step
pub use Rattle.stream_states.specs as stream_states
