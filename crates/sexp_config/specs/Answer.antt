-- Each text has one answer.
use Rattle.std.specs.Prelude.{◌≡◌, ℕ, ◌⊎◌, List}
use Rattle.sexp_config.specs.declared.config.Config.{Config}
use Rattle.config_terms.specs.declared.fault.ConfigWhy.{ConfigWhy}
use Rattle.sexp_config.specs.Config.{IsConfigOf, IsConfigFault}

-- the text is a configuration, or is refused for a cause at a place
abbrev pub IsConfig : List ℕ → Type 0
IsConfig text = (config : Config) × IsConfigOf text config

abbrev pub IsRefused : List ℕ → Type 0
IsRefused text = (place : ℕ) × (why : ConfigWhy) × IsConfigFault text place why

abbrev pub TextsAreAnswered : Type 0
TextsAreAnswered = (text : List ℕ) → IsConfig text ⊎ IsRefused text

-- not both
abbrev pub ConfigsAreNotRefused : Type 0
ConfigsAreNotRefused =
    (text : List ℕ) (config : Config) (place : ℕ) (why : ConfigWhy) → IsConfigOf text config
    → IsConfigFault text place why → ⊥

-- no other configuration, and no other cause or place
abbrev pub ConfigsAreOne : Type 0
ConfigsAreOne =
    (text : List ℕ) (config other : Config) → IsConfigOf text config → IsConfigOf text other → config ≡ other

abbrev pub RefusalsAreOne : Type 0
RefusalsAreOne = (text : List ℕ) (place other : ℕ) (why cause : ConfigWhy) → IsConfigFault text place why
    → IsConfigFault text other cause → (place ≡ other) × (why ≡ cause)
