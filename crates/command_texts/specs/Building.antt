-- What is known of a configuration whose patterns are built and whose text is written.
use Rattle.std.specs.Prelude.{◌≡◌, ℕ, List, Result, Ok, Err}
use Rattle.ports.specs.Counts.{Rose}
use Rattle.ports.specs.Writing.{Got, GotPrefix, SinkReport}
use Rattle.pred_eval.specs.declared.patterns.BuildFault.{BuildFault}
use Rattle.pred_eval.specs.declared.patterns.BuildFault.TheVariants as build
use Rattle.command_io.specs.sexp_config.declared.config.Config.{Config}
use Rattle.command_io.specs.sexp_config.Canonical.{canonical_text}
use Rattle.stream_plan.specs.Ready.{plan_patterns}
use Rattle.command_io.specs.declared.ending.ConfigRefusal.TheVariants.{Pattern}
use Rattle.command_io.specs.declared.ending.Ending.{Ending}
use Rattle.command_io.specs.declared.ending.Ending.TheVariants.{Finished, ConfigRefused, WriteFailed, OutOfMemory}
use Rattle.command_io.specs.Building.{AreBuilt, IsRefusedPattern}
use Rattle.command_io.specs.hub_meaning.Verdicts.{PatternsReport}

-- the text of a configuration whose patterns were built, or why it was not made
abbrev pub BuildsText : Config → PatternsReport → PatternsReport → Result (List ℕ) BuildFault → Type 0
BuildsText config patterns patterns' (Ok text) =
    (text ≡ canonical_text config) × AreBuilt config.plan × (patterns' ≡ patterns)
BuildsText config patterns patterns' (Err (build.Pattern number)) =
    IsRefusedPattern (plan_patterns config.plan) number patterns patterns'
BuildsText config patterns patterns' (Err build.Memory) = patterns' ≡ patterns

-- how `check` ends once it has its configuration
abbrev pub EndsCheck : Config → PatternsReport → PatternsReport → SinkReport → SinkReport → Ending → Type 0
EndsCheck config patterns patterns' out out' Finished =
    AreBuilt config.plan × Got out.text (canonical_text config) out'.text × (out'.faults ≡ out.faults)
    × (patterns' ≡ patterns)
EndsCheck config patterns patterns' out out' WriteFailed =
    AreBuilt config.plan × GotPrefix out.text (canonical_text config) out'.text × Rose out.faults out'.faults
    × (patterns' ≡ patterns)
EndsCheck config patterns patterns' out out' (ConfigRefused (Pattern number)) =
    IsRefusedPattern (plan_patterns config.plan) number patterns patterns' × (out' ≡ out)
EndsCheck config patterns patterns' out out' OutOfMemory = (patterns' ≡ patterns) × (out' ≡ out)
EndsCheck config patterns patterns' out out' _ = ⊥
