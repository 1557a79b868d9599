-- What is known of a configuration that was read, and why it was refused.
use Rattle.std.proofs.Common.{◌≡◌, ℕ, ◌≤◌, List, [], ◌∷◌, length, refl, arith}
use Rattle.std.specs.Prelude.{Result, Ok, Err, IfErr}
use Rattle.hub_meaning.specs.Verdicts.{PatternsReport}
use Rattle.ports.specs.Counts.{IsStill}
use Rattle.ports.specs.Reading.{IsHeld, StoreReport}
use Rattle.sexp_config.specs.declared.config.Config.{Config}
use Rattle.config_terms.specs.declared.fault.ConfigFault.{ConfigFault}
use Rattle.config_terms.specs.declared.fault.ConfigFault.TheVariants as cause
use Rattle.config_terms.specs.declared.fault.ConfigWhy.{ConfigWhy}
use Rattle.sexp_config.specs.Config.{IsConfigFault, IsConfigOf, IsReadAs, IsRefusedAs, IsRefusedFor}
use Rattle.stream_plan.specs.Ready.{plan_patterns}
use Rattle.command_io.specs.declared.ending.ConfigRefusal.{ConfigRefusal}
use Rattle.command_io.specs.declared.ending.ConfigRefusal.TheVariants.{Refused, Pattern}
use Rattle.command_io.specs.declared.limits.TheConstants.{CONFIG_LIMIT}
use Rattle.command_io.specs.Building.{IsRefusedPattern}
use Rattle.command_io.specs.Configs.{ForConfig, IsRefused, ReadsAs, RefusesConfig, RefusesPattern}
use Rattle.command_io.specs.Fetches.{IsFetchFault, IsTextFault, fetch_reads}
use Rattle.command_io.specs.Files.{ForGiven, Gives, good_read}
use Rattle.command_io.specs.declared.fetch.FetchFault.{FetchFault}
use Rattle.command_io.specs.declared.fetch.FetchFault.TheVariants as fetch
use Rattle.command_io.proofs.EndingLaws.{reported_of}

-- the text that was given is this configuration
abbrev pub GivesConfig : List ℕ → StoreReport → StoreReport → Config → Type 0
GivesConfig name store store' config =
    ForGiven name store store' (λ text. (length text ≤ CONFIG_LIMIT) × ReadsAs text config)

-- a fact of the configuration that was read, as one of its text
pub for_config : (name : List ℕ) (store store' : StoreReport) (config : Config) (P : Config → Type 0)
    → GivesConfig name store store' config → P config
    → ForConfig name store store' P
for_config name store store' config P given fact = (given.0, given.1, (given.2.0, (config, given.2.1, fact)))

-- a pattern of the plan that was refused is one of the configuration
pub refuses_pattern : (name : List ℕ) (store store' : StoreReport) (config : Config) (number : ℕ)
    (old new : PatternsReport) → GivesConfig name store store' config
    → IsRefusedPattern (plan_patterns config.plan) number old new → RefusesPattern name store store' number old new
refuses_pattern name store store' config number old new given refused = record {
  pattern = refused.pattern;
  reported = refused.reported;
  rose = refused.rose;
  numbered = for_config name store store' config _ given refused.numbered;
}

-- a text that is a configuration is not refused where no refusal is counted
pub config_not_refused : (name : List ℕ) (store store' : StoreReport) (text : List ℕ) (read : Config)
    (refusal : ConfigRefusal) (old new : PatternsReport)
    → IsHeld (store.held name) text
    → IsConfigOf text read → IsStill old.refusals new.refusals → RefusesConfig name store store' old new refusal → ⊥
config_not_refused name store store' text read (Refused place why) old new holds reads still refuses =
    (reported_of name store store' text _ holds refuses.0).1.unread read reads
config_not_refused name store store' text read (Pattern number) old new holds reads still refuses =
    omega (arith, refuses.rose, still.0, still.1)

-- ---- a text that was not read as a configuration

pub text_fault : (text : List ℕ) (fault : ConfigFault) → IsRefusedFor text fault
    → ((place : ℕ) (why : ConfigWhy) → IsConfigFault text place why → IsRefusedAs place why (Err fault))
    → ((config : Config) → IsConfigOf text config → IsReadAs config (Err fault)) → IsTextFault text (fetch.Config fault)
text_fault text (cause.Refused place why) refused only_refused only =
    record {
      fault = refused;
      only = only_refused;
      unread = λ config is. let other : cause.Refused place why ≡ cause.Memory = only config is in cc;
    }
text_fault text cause.Memory refused only_refused only = tt

-- a fault of the text is one of the file that has it
pub file_of_text : (name text : List ℕ) (old new : StoreReport) (read : Result Config FetchFault)
    → Gives name text old new → length text ≤ CONFIG_LIMIT → IfErr read (IsTextFault text)
    → IfErr read (IsFetchFault name old new)
file_of_text name text old new (Ok config) gives within is = tt
file_of_text name text old new (Err (fetch.File fault)) gives within is = absurd is
file_of_text name text old new (Err (fetch.Config (cause.Refused place why))) gives within is =
    (text, gives, (within, is))
file_of_text name text old new (Err (fetch.Config cause.Memory)) gives within is = (text, gives)

-- its file was read
pub text_reads : (name text : List ℕ) (read : Result Config FetchFault) → IfErr read (IsTextFault text)
    → fetch_reads name read ≡ good_read name ∷ []
text_reads name text (Ok config) is = refl
text_reads name text (Err (fetch.File fault)) is = absurd is
text_reads name text (Err (fetch.Config fault)) is = refl
