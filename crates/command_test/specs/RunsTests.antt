-- What `test CONFIG TESTS` promises.
use Rattle.std.specs.Prelude.{◌≡◌, ℕ, ◌≤◌, ◌⊎◌, List, [], ◌∷◌, length}
use Rattle.command_io.specs.Files.{good_read}
use Rattle.command_io.specs.Reports.{Reports}
use Rattle.command_io.specs.declared.limits.TheConstants.{CONFIG_LIMIT}
use Rattle.command_io.specs.declared.status.Status.{Status}
use Rattle.command_io.specs.declared.status.Status.TheVariants.{Done, Memory, Verdict}
use Rattle.config_tests.specs.Tests.{AreTestsOf}
use Rattle.config_tests.specs.declared.entry.Test.{Test}
use Rattle.event_core.specs.Core.{CoreConfig}
use Rattle.ports.specs.Counts.{IsStill}
use Rattle.ports.specs.Reading.{IsHeld, StoreReport}
use Rattle.sexp_config.specs.Config.{IsConfigOf}
use Rattle.sexp_config.specs.declared.config.Config.{Config as Configuration}
use Rattle.stream_tests.specs.Running.{core_of}
use Rattle.command_test.specs.Endings.{HasNoTests, IsComplete, Says, status_of}
use Rattle.command_test.specs.Given.{HasConfig, HasTests, RefusesConfig, RefusesTests}
use Rattle.command_test.specs.Reading.{ReadsOnce}
use Rattle.command_test.specs.Running.{AllPass, RunEnds, RunReport, run_report}
use Rattle.command_test.specs.declared.ending.TestsEnding.{TestsEnding}

abbrev pub run_report_of : Reports → RunReport
run_report_of reports = run_report reports.patterns reports.out

-- there are no tests in the file of the name and nothing was run, or they were run
abbrev pub SuiteEnds : Configuration → List ℕ → StoreReport → StoreReport → RunReport → RunReport → TestsEnding → Type 0
SuiteEnds config tests store store' old new ending =
    (RefusesTests tests store store' ending × (new ≡ old))
    ⊎ ((given : List Test) × HasTests tests store store' given × RunEnds config given old new ending)

-- There is no configuration in the file of the first name, and nothing was run and the tests were not read. Or there is
-- one, and then the tests were read too: the store reported `mid` between the two reads.
abbrev pub TestsEnd : List ℕ → List ℕ → StoreReport → StoreReport → RunReport → RunReport → TestsEnding → Type 0
TestsEnd config tests store store' old new ending =
    (RefusesConfig config store store' ending × (new ≡ old) × ReadsOnce [] config store.reads store'.reads ending)
    ⊎ ((read : Configuration) × (mid : StoreReport) × HasConfig config store mid read
    × ReadsOnce (good_read config ∷ []) tests store.reads store'.reads ending
    × SuiteEnds read tests mid store' old new ending)

-- the status of a command that ran all tests, or ran out of memory
abbrev pub HasShown : CoreConfig → List Test → Status → Type 0
HasShown core tests Done = AllPass core tests
HasShown core tests Verdict = AllPass core tests → ⊥
HasShown core tests Memory = Unit {0}
HasShown core tests _ = ⊥

-- With both files within their limits, a configuration and tests, no fault and no pattern refused, the status says
-- whether all tests pass, or memory runs out.
abbrev pub TestsComplete : List ℕ → List ℕ → Reports → Reports → Status → Type 0
TestsComplete config tests old new status = (text lines : List ℕ) (read : Configuration) (given : List Test)
    → IsHeld (old.store.held config) text → IsConfigOf text read → length text ≤ CONFIG_LIMIT
    → IsHeld (old.store.held tests) lines → AreTestsOf lines given → length lines ≤ CONFIG_LIMIT
    → IsStill old.store.faults new.store.faults → IsStill old.out.faults new.out.faults
    → IsStill old.patterns.refusals new.patterns.refusals → HasShown (core_of read) given status

-- `Unasked` is that no pattern was asked for, and `Untouched` that the output is as it was.
pub record RunsTests (config tests : List ℕ) (old new : Reports) (Unasked Untouched : Type 0)
    (status : Status) : Type 0 where
  -- how it ended, as the status and the line on the error stream say
  pub ending : TestsEnding
  pub ended : status ≡ status_of ending
  pub says : Says ending old.err new.err
  -- why it ended so, what was read, which tests were run, and what was written of them
  pub ends : TestsEnd config tests old.store new.store (run_report_of old) (run_report_of new) ending
  -- patterns are asked for and lines are written once there are tests
  pub unasked : HasNoTests ending → Unasked
  pub untouched : HasNoTests ending → Untouched
  -- where all tests were run, no read failed
  pub quiet : IsComplete ending → new.store.faults ≡ old.store.faults
  -- it calls no link
  pub idle : new.links ≡ old.links
  pub complete : TestsComplete config tests old new status
