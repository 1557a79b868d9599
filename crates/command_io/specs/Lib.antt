pub mod Reports
pub mod Files
pub mod Building
pub mod Configs
pub mod Fetches
pub mod Lines
pub mod Endings
pub mod Accepting
pub mod Limits
pub use Rattle.hub_meaning.specs as hub_meaning
pub use Rattle.config_terms.specs as config_terms
pub use Rattle.sexp_config.specs as sexp_config
