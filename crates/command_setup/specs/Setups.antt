-- What a configuration says that a server is run with.
use Rattle.std.specs.Prelude.{◌≡◌, ℕ, List, ◌++◌, codes, Result, Ok, Err}
use Rattle.std.specs.Fmt.{decimal}
use Rattle.hub_run.specs.hub_meaning.Verdicts.{PatternsReport}
use Rattle.hub_run.specs.Runs.{RunReport, run_report}
use Rattle.hub_run.specs.declared.setup.Setup.{Setup}
use Rattle.ports.specs.Reading.{StoreReport}
use Rattle.command_io.specs.sexp_config.declared.config.Config.{Config}
use Rattle.stream_plan.specs.Ready.{plan_patterns}
use Rattle.command_io.specs.Building.{AreBuilt, IsRefusedPattern}
use Rattle.command_io.specs.Configs.{ForConfig, IsRefused, ReadsAs}
use Rattle.ports.specs.Writing.{SinkReport}
use Rattle.command_io.specs.Reports.{Reports}
use Rattle.command_io.specs.declared.ending.ConfigRefusal.TheVariants.{Refused, Pattern}
use Rattle.command_io.specs.declared.ending.Ending.{Ending}
use Rattle.command_io.specs.declared.ending.Ending.TheVariants.{ConfigRefused, OutOfMemory}

-- where a server listens
abbrev pub address_text : List ℕ → ℕ → List ℕ
address_text host port = host ++ (codes ":" ++ decimal port)

-- what a server of the configuration is run with
abbrev pub setup_of : Config → Setup
setup_of config = record { address = address_text config.host config.port; plan = config.plan; expiry = config.expiry }

-- A read of the file of the name gave a configuration whose patterns were built, and this is what its server is run
-- with. The reports are those of the store before and after.
abbrev pub SetsUp : List ℕ → StoreReport → StoreReport → Setup → Type 0
SetsUp name store store' setup =
    ForConfig name store store' (λ config. AreBuilt config.plan × (setup ≡ setup_of config))

-- the same of a text
abbrev pub SetsUpText : List ℕ → Setup → Type 0
SetsUpText text setup = (config : Config) × ReadsAs text config × AreBuilt config.plan × (setup ≡ setup_of config)

-- why no server is run with a text, from what is reported of patterns before and after
abbrev pub RefusesText : List ℕ → PatternsReport → PatternsReport → Ending → Type 0
RefusesText text patterns patterns' (ConfigRefused (Refused place why)) =
    IsRefused text place why × (patterns' ≡ patterns)
RefusesText text patterns patterns' (ConfigRefused (Pattern number)) =
    (config : Config) × ReadsAs text config × IsRefusedPattern (plan_patterns config.plan) number patterns patterns'
RefusesText text patterns patterns' OutOfMemory = patterns' ≡ patterns
RefusesText text patterns patterns' _ = ⊥

-- what changes in a run whose notice lines go to this sink
abbrev pub run_report_of : Reports → SinkReport → RunReport
run_report_of reports sink = run_report reports.patterns reports.forks sink

-- what a configuration that was read is run with, or why it is not
abbrev pub MakesSetup : Config → PatternsReport → PatternsReport → Result Setup Ending → Type 0
MakesSetup config patterns patterns' (Ok setup) =
    (setup ≡ setup_of config) × AreBuilt config.plan × (patterns' ≡ patterns)
MakesSetup config patterns patterns' (Err (ConfigRefused (Pattern number))) =
    IsRefusedPattern (plan_patterns config.plan) number patterns patterns'
MakesSetup config patterns patterns' (Err OutOfMemory) = patterns' ≡ patterns
MakesSetup config patterns patterns' (Err _) = ⊥
