-- What is written of a configuration is read again.
use Rattle.std.specs.Prelude.{ℕ, ◌≤◌, List, length}
use Rattle.sexp_read.specs.Grammar.{longest, deepest}
use Rattle.sexp_read.specs.Written.{bare_depth, listed}
use Rattle.sexp_config.specs.declared.config.Config.{Config}
use Rattle.sexp_config.specs.Config.{IsConfigOf}
use Rattle.sexp_config.specs.Canonical.{canonical_text, config_forms}

-- a text represents the configuration
abbrev pub IsReadable : Config → Type 0
IsReadable config = (text : List ℕ) × IsConfigOf text config

-- the canonical text is within the limits of a text
pub record IsWithinLimits (config : Config) : Type 0 where
  pub short : length (canonical_text config) ≤ longest
  pub shallow : bare_depth (listed (config_forms config)) ≤ deepest

-- the canonical text of a configuration that was read represents it
abbrev pub CanonicalIsRead : Type 0
CanonicalIsRead =
    (config : Config) → IsReadable config → IsWithinLimits config → IsConfigOf (canonical_text config) config
