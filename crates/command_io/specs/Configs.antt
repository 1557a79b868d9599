-- The configuration of a command, and why it is refused.
use Rattle.std.specs.Prelude.{◌≡◌, ℕ, ◌≤◌, List, [], ◌∷◌, ◌++◌, length, slice_get, Some}
use Rattle.std.specs.Option.{option_map}
use Rattle.hub_meaning.specs.Verdicts.{PatternsReport}
use Rattle.ports.specs.Counts.{Rose}
use Rattle.ports.specs.Reading.{StoreReport}
use Rattle.sexp_config.specs.declared.config.Config.{Config}
use Rattle.config_terms.specs.declared.fault.ConfigWhy.{ConfigWhy}
use Rattle.sexp_config.specs.Config.{IsConfigFault, IsConfigOf}
use Rattle.stream_plan.specs.Ready.{plan_patterns}
use Rattle.command_io.specs.declared.limits.TheConstants.{CONFIG_LIMIT}
use Rattle.command_io.specs.declared.ending.ConfigRefusal.{ConfigRefusal}
use Rattle.command_io.specs.declared.ending.ConfigRefusal.TheVariants.{Refused, Pattern}
use Rattle.command_io.specs.Files.{ForGiven}

-- the text is this configuration, no other, and no fault
pub record ReadsAs (text : List ℕ) (config : Config) : Type 0 where
  pub reads : IsConfigOf text config
  pub alone : (other : Config) → IsConfigOf text other → other ≡ config
  pub accepted : (place : ℕ) (why : ConfigWhy) → IsConfigFault text place why → ⊥

-- the text is not a configuration, for this cause at the place, and for no other cause and at no other place
pub record IsRefused (text : List ℕ) (place : ℕ) (why : ConfigWhy) : Type 0 where
  pub fault : IsConfigFault text place why
  pub only : (other : ℕ) (cause : ConfigWhy) → IsConfigFault text other cause → (place ≡ other) × (why ≡ cause)
  pub unread : (config : Config) → IsConfigOf text config → ⊥

-- A read of the file of the name gave a text within the limit that is a configuration of which this is true. `store` and
-- `store'` are what the store reports before and after.
abbrev pub ForConfig : List ℕ → StoreReport → StoreReport → (Config → Type 0) → Type 0
ForConfig name store store' P = ForGiven name store store'
    (λ text. (length text ≤ CONFIG_LIMIT) × ((config : Config) × ReadsAs text config × P config))

-- it gave a text within the limit that is refused
abbrev pub ForRefused : List ℕ → StoreReport → StoreReport → ℕ → ConfigWhy → Type 0
ForRefused name store store' place why =
    ForGiven name store store' (λ text. (length text ≤ CONFIG_LIMIT) × IsRefused text place why)

-- the pattern of this number of the configuration was refused: it is reported, and counted
pub record RefusesPattern (name : List ℕ) (store store' : StoreReport) (number : ℕ)
    (old new : PatternsReport) : Type 0 where
  pub pattern : List ℕ
  pub reported : new.refused ≡ option_map (λ refused. refused ++ pattern ∷ []) old.refused
  pub rose : Rose old.refusals new.refusals
  pub numbered : ForConfig name store store' (λ config. slice_get (plan_patterns config.plan) number ≡ Some pattern)

-- why a configuration is refused; without such a pattern what is known of patterns stays the same
abbrev pub RefusesConfig : List ℕ → StoreReport → StoreReport → PatternsReport → PatternsReport → ConfigRefusal → Type 0
RefusesConfig name store store' old new (Refused place why) = ForRefused name store store' place why × (new ≡ old)
RefusesConfig name store store' old new (Pattern number) = RefusesPattern name store store' number old new
