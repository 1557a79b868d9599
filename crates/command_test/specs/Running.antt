-- What is written while tests are run one after another.
use Rattle.std.specs.Prelude.{◌≡◌, ℕ, Bool, MatchBool, List, [], ◌∷◌, ◌++◌, map}
use Rattle.std.specs.List.{AllByRecursion, flat_map}
use Rattle.command_io.specs.Building.{IsRefusedPattern}
use Rattle.command_io.specs.declared.ending.ConfigRefusal.TheVariants as refusal
use Rattle.command_io.specs.declared.ending.Ending.TheVariants.{Finished, ConfigRefused, WriteFailed, OutOfMemory}
use Rattle.command_io.specs.hub_meaning.Verdicts.{PatternsReport}
use Rattle.config_tests.specs.declared.entry.Test.{Test}
use Rattle.event_core.specs.Core.{CoreConfig}
use Rattle.ports.specs.Writing.{FailsToPut, Got, Puts, SinkReport}
use Rattle.sexp_config.specs.declared.config.Config.{Config}
use Rattle.stream_plan.specs.Ready.{plan_patterns}
use Rattle.stream_tests.specs.Running.{core_of}
use Rattle.stream_tests.specs.Verdicts.{IsVerdictOn}
use Rattle.stream_tests.specs.declared.verdict.Verdict.{Verdict}
use Rattle.stream_tests.specs.declared.verdict.Verdict.TheVariants.{Pass as passed}
use Rattle.command_test.specs.Lines.{IsJudged, Judged, is_pass, judged_line, judged_test, verdict_line}
use Rattle.command_test.specs.declared.ending.TestsEnding.{TestsEnding}
use Rattle.command_test.specs.declared.ending.TestsEnding.TheVariants.{Shared, Differed}
use Rattle.command_test.specs.declared.stop.Stop.{Stop}
use Rattle.command_test.specs.declared.stop.Stop.TheVariants.{Pattern, Write, Memory}

-- what changes while tests are run
pub record RunReport : Type 0 where
  -- what is known of the patterns of the configuration
  pub patterns : PatternsReport
  -- the output, where the lines go
  pub out : SinkReport

abbrev pub run_report : PatternsReport → SinkReport → RunReport
run_report patterns out = record { patterns = patterns; out = out }

-- ---- lines

-- these lines were put, one after another, each in one put
abbrev pub PutsEach : List (List ℕ) → SinkReport → SinkReport → Type 0
PutsEach [] old new = new ≡ old
PutsEach (line ∷ lines) old new = (between : SinkReport) × Puts old line between × PutsEach lines between new

-- the output got these lines, each in one put, and no put failed
pub record GotLines (old : SinkReport) (lines : List (List ℕ)) (new : SinkReport) : Type 0 where
  pub text : Got old.text (flat_map (λ line. line) lines) new.text
  pub each : PutsEach lines old new
  pub no_fault : new.faults ≡ old.faults

-- ---- tests that were run

-- each of the tests has its verdict, and the lines of the verdicts were written, in order
pub record Judges (core : CoreConfig) (tests : List Test) (old new : SinkReport) : Type 0 where
  pub judged : List Judged
  pub are : map judged_test judged ≡ tests
  pub each : AllByRecursion (IsJudged core) judged
  pub lines : GotLines old (map judged_line judged) new

-- the test passes
abbrev pub Passes : CoreConfig → Test → Type 0
Passes core test = IsVerdictOn core test passed

abbrev pub AllPass : CoreConfig → List Test → Type 0
AllPass core tests = AllByRecursion (Passes core) tests

-- all tests were run, and this says whether all pass
pub record ShowsAll (config : Config) (tests : List Test) (all : Bool) (old new : RunReport) : Type 0 where
  pub judges : Judges (core_of config) tests old.out new.out
  pub passed : MatchBool all (AllPass (core_of config) tests) (AllPass (core_of config) tests → ⊥)
  pub no_refusal : new.patterns ≡ old.patterns

-- the test was run, its line was written, and this says whether it passes
pub record ShowsOne (config : Config) (test : Test) (pass : Bool) (old new : RunReport) : Type 0 where
  pub verdict : Verdict
  pub is : IsVerdictOn (core_of config) test verdict
  pub puts : Puts old.out (verdict_line test.name verdict) new.out
  pub passed : pass ≡ is_pass verdict
  pub no_refusal : new.patterns ≡ old.patterns

-- ---- tests that were not all run

-- the line of a verdict was not written
pub record FailsToShow (core : CoreConfig) (test : Test) (old new : SinkReport) : Type 0 where
  pub verdict : Verdict
  pub is : IsVerdictOn core test verdict
  pub fails : FailsToPut old (verdict_line test.name verdict) new

-- why the run stopped at the test: a pattern was refused, or its line was not written, or memory ran out
abbrev pub StopsAt : Config → Test → Stop → RunReport → RunReport → Type 0
StopsAt config test (Pattern number) old new =
    IsRefusedPattern (plan_patterns config.plan) number old.patterns new.patterns × (new.out ≡ old.out)
StopsAt config test Write old new = FailsToShow (core_of config) test old.out new.out × (new.patterns ≡ old.patterns)
StopsAt config test Memory old new = new ≡ old

-- the run stopped at a test, and those before it were run
pub record StopsRun (config : Config) (tests : List Test) (stop : Stop) (old new : RunReport) : Type 0 where
  pub before : List Test
  pub test : Test
  pub later : List Test
  pub whole : tests ≡ before ++ test ∷ later
  -- what was known when the test began
  pub between : RunReport
  pub judges : Judges (core_of config) before old.out between.out
  pub no_refusal : between.patterns ≡ old.patterns
  pub stops : StopsAt config test stop between new

-- ---- how a run ends

abbrev pub RunEnds : Config → List Test → RunReport → RunReport → TestsEnding → Type 0
RunEnds config tests old new (Shared Finished) =
    Judges (core_of config) tests old.out new.out × AllPass (core_of config) tests × (new.patterns ≡ old.patterns)
RunEnds config tests old new Differed =
    Judges (core_of config) tests old.out new.out × (AllPass (core_of config) tests → ⊥) × (new.patterns ≡ old.patterns)
RunEnds config tests old new (Shared (ConfigRefused (refusal.Pattern number))) =
    StopsRun config tests (Pattern number) old new
RunEnds config tests old new (Shared WriteFailed) = StopsRun config tests Write old new
RunEnds config tests old new (Shared OutOfMemory) = StopsRun config tests Memory old new
RunEnds config tests old new _ = ⊥
