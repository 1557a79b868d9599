-- A text that a server is run with, or that is refused.
use Rattle.std.proofs.Common.{◌≡◌, ℕ, List, refl}
use Rattle.std.specs.Prelude.{Result, Ok, Err, IfErr, IfOk}
use Rattle.hub_run.specs.declared.setup.Setup.{Setup}
use Rattle.hub_run.specs.hub_meaning.Verdicts.{PatternsReport}
use Rattle.command_io.specs.Configs.{ReadsAs}
use Rattle.command_io.specs.Fetches.{ending_of_config}
use Rattle.command_io.specs.config_terms.declared.fault.ConfigFault.{ConfigFault}
use Rattle.command_io.specs.config_terms.declared.fault.ConfigFault.TheVariants as cause
use Rattle.command_io.specs.config_terms.declared.fault.ConfigWhy.{ConfigWhy}
use Rattle.command_io.specs.declared.ending.ConfigRefusal.TheVariants.{Refused, Pattern}
use Rattle.command_io.specs.declared.ending.Ending.{Ending}
use Rattle.command_io.specs.declared.ending.Ending.TheVariants.{ConfigRefused, OutOfMemory}
use Rattle.command_io.specs.sexp_config.Config.{IsConfigFault, IsConfigOf, IsReadAs, IsRefusedAs, IsRefusedFor}
use Rattle.command_io.specs.sexp_config.declared.config.Config.{Config}
use Rattle.command_setup.specs.Setups.{MakesSetup, RefusesText, SetsUpText}

-- ---- a text

-- what was made of the configuration that a text is
pub makes_text : (text : List ℕ) (config : Config) (patterns patterns' : PatternsReport) (made : Result Setup Ending)
    → ReadsAs text config
    → MakesSetup config patterns patterns' made
    → IfOk made (SetsUpText text) × IfErr made (RefusesText text patterns patterns')
makes_text text config patterns patterns' (Ok setup) reads makes = ((config, reads, makes.1, makes.0), tt)
makes_text text config patterns patterns' (Err (ConfigRefused (Pattern number))) reads makes =
    (tt, (config, reads, makes))
makes_text text config patterns patterns' (Err OutOfMemory) reads makes = (tt, makes)
makes_text text config patterns patterns' (Err _) reads makes = absurd makes

-- one that is not a configuration
pub text_refused : (text : List ℕ) (fault : ConfigFault) (patterns : PatternsReport) → IsRefusedFor text fault
    → ((place : ℕ) (why : ConfigWhy) → IsConfigFault text place why → IsRefusedAs place why (Err fault))
    → ((config : Config) → IsConfigOf text config → IsReadAs config (Err fault))
    → RefusesText text patterns patterns (ending_of_config fault)
text_refused text (cause.Refused place why) patterns refused only_refused only = (
  record {
    fault = refused;
    only = only_refused;
    unread = λ config is. let other : cause.Refused place why ≡ cause.Memory = only config is in cc;
  },
  refl,
)
text_refused text cause.Memory patterns refused only_refused only = refl
