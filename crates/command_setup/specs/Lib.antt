pub mod Setups
pub mod Endings
pub use Rattle.command_io.specs as command_io
pub use Rattle.hub_run.specs.conn_core
pub use Rattle.hub_run.specs.event_core
pub use Rattle.hub_run.specs.hub_meaning
pub use Rattle.hub_run.specs as hub_run
pub use Rattle.command_io.specs.sexp_config
