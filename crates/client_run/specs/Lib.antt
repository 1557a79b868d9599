pub mod Runs
pub mod Taking
pub use Rattle.riemann_client.specs as riemann_client
