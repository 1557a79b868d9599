pub mod Arriving
pub mod Answering
pub use Rattle.event_core.specs as event_core
pub use Rattle.hub_meaning.specs as hub_meaning
