pub use Rattle.conn_core.specs as conn_core
pub use Rattle.conn_core.specs.event_core
pub use Rattle.conn_core.specs.hub_meaning
pub mod Taken
pub mod Apart
pub mod Runs
pub mod Taking
pub mod TakenBytes
pub mod Laws
