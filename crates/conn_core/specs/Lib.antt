pub use Rattle.hub_link.specs.event_core
pub use Rattle.hub_link.specs as hub_link
pub use Rattle.hub_link.specs.hub_meaning
pub mod Kept
pub mod Lending
pub mod Keeping
pub mod Known
pub mod Reaching
pub mod Hub
pub mod Turning
pub mod Occurring
