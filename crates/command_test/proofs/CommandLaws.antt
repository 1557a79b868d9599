-- What the statuses of the command say, from how it ended.
use Rattle.std.proofs.Common.{◌≡◌, ℕ, ◌≤◌, inl, inr, List, length, sym, subst, arith}
use Rattle.command_io.proofs.EndingLaws.{held_since, not_over, reported_of, rose_since, still_since}
use Rattle.command_io.specs.Configs.{ReadsAs}
use Rattle.command_io.specs.declared.ending.ConfigRefusal.TheVariants.{Refused, Pattern}
use Rattle.command_io.specs.declared.ending.Ending.TheVariants.{Finished, ConfigRefused, Unread, OverLimit, WriteFailed}
use Rattle.command_io.specs.declared.ending.Ending.TheVariants.{LinksFailed, OutOfMemory}
use Rattle.command_io.specs.declared.limits.TheConstants.{CONFIG_LIMIT}
use Rattle.command_io.specs.declared.status.Status.TheVariants.{Usage, ReadFault, SinkFault, LinkFault}
use Rattle.command_io.specs.hub_meaning.Verdicts.{PatternsReport}
use Rattle.config_tests.specs.Tests.{AreTestsOf}
use Rattle.config_tests.specs.declared.entry.Test.{Test}
use Rattle.ports.specs.Counts.{IsStill, Rose}
use Rattle.ports.specs.Reading.{IsHeld, StoreReport}
use Rattle.sexp_config.specs.Config.{IsConfigOf}
use Rattle.sexp_config.specs.declared.config.Config.{Config}
use Rattle.stream_tests.specs.Running.{core_of}
use Rattle.command_test.specs.Endings.{status_of}
use Rattle.command_test.specs.Given.{HasConfig, HasTests, ReadsAsTests, RefusesConfig, RefusesTests}
use Rattle.command_test.specs.Running.{RunEnds, RunReport, StopsRun}
use Rattle.command_test.specs.RunsTests.{HasShown, TestsEnd}
use Rattle.command_test.specs.declared.ending.TestsEnding.{TestsEnding}
use Rattle.command_test.specs.declared.ending.TestsEnding.TheVariants.{Shared, Differed, TestsRefused}
use Rattle.command_test.specs.declared.stop.Stop.TheVariants as stop

-- ---- statuses that come for one ending

pub ends_rose : (config tests : List ℕ) (store store' : StoreReport) (old new : RunReport) (ending : TestsEnding)
    → TestsEnd config tests store store' old new ending
    → status_of ending ≡ ReadFault → Rose store.faults store'.faults
ends_rose config tests store store' old new (Shared (Unread unread)) (inl refused) e = refused.0.0
ends_rose config tests store store' old new (Shared (Unread unread)) (inr (read, mid, has, reads, inl refused)) e =
    rose_since config has.0 store mid store'.faults has.1 refused.0.0
ends_rose config tests store store' old new (Shared (Unread unread)) (inr (read, mid, has, reads, inr (given, holds, ends)))
    e =
    absurd ends
ends_rose config tests store store' old new _ ends e = cc

write_rose : (config : Config) (tests : List Test) (old new : RunReport) → StopsRun config tests stop.Write old new
    → Rose old.out.faults new.out.faults
write_rose config tests old new stops =
    subst (λ (n : ℕ). Rose n new.out.faults) stops.judges.lines.no_fault stops.stops.0.fails.fault

pub ends_put_rose : (config tests : List ℕ) (store store' : StoreReport) (old new : RunReport) (ending : TestsEnding)
    → TestsEnd config tests store store' old new ending
    → status_of ending ≡ SinkFault → Rose old.out.faults new.out.faults
ends_put_rose config tests store store' old new (Shared WriteFailed) (inl refused) e = absurd refused.0
ends_put_rose config tests store store' old new (Shared WriteFailed) (inr (read, mid, has, reads, inl refused)) e =
    absurd refused.0
ends_put_rose config tests store store' old new (Shared WriteFailed) (inr (read, mid, has, reads, inr (given, holds, ends)))
    e =
    write_rose read given old new ends
ends_put_rose config tests store store' old new _ ends e = cc

-- no link is called
pub no_link : (config tests : List ℕ) (store store' : StoreReport) (old new : RunReport) (ending : TestsEnding)
    → TestsEnd config tests store store' old new ending
    → status_of ending ≡ LinkFault → ⊥
no_link config tests store store' old new (Shared LinksFailed) (inl refused) e = refused.0
no_link config tests store store' old new (Shared LinksFailed) (inr (read, mid, has, reads, inl refused)) e = refused.0
no_link config tests store store' old new (Shared LinksFailed) (inr (read, mid, has, reads, inr (given, holds, ends))) e =
    ends
no_link config tests store store' old new _ ends e = cc

-- the arguments are those of the command
pub no_usage : (ending : TestsEnding) → status_of ending ≡ Usage → ⊥
no_usage (Shared Finished) e = cc
no_usage _ e = cc

-- ---- what is certain without faults

module _ (read : Config) (given : List Test) (text lines : List ℕ) (is : IsConfigOf text read)
    (are : AreTestsOf lines given)
    (few : length text ≤ CONFIG_LIMIT) (short : length lines ≤ CONFIG_LIMIT) (store store' : StoreReport)
    (old new : RunReport)
    (reads_still : IsStill store.faults store'.faults) (puts_still : IsStill old.out.faults new.out.faults)
    (still : IsStill old.patterns.refusals new.patterns.refusals) where
  config_shown : (name : List ℕ) (ending : TestsEnding) → IsHeld (store.held name) text
      → RefusesConfig name store store' ending → HasShown (core_of read) given (status_of ending)
  config_shown name (Shared (ConfigRefused (Refused place why))) holds refuses =
      absurd ((reported_of name store store' text _ holds refuses).1.unread read is)
  config_shown name (Shared (Unread unread)) holds refuses =
      absurd (omega (arith, refuses.0, reads_still.0, reads_still.1))
  config_shown name (Shared (OverLimit over limit)) holds refuses =
      absurd (not_over (store.held name) text CONFIG_LIMIT holds few refuses.0)
  config_shown name (Shared OutOfMemory) holds refuses = tt
  config_shown name _ holds refuses = absurd refuses

  tests_shown : (name : List ℕ) (mid : StoreReport) (ending : TestsEnding) → IsHeld (mid.held name) lines
      → IsStill mid.faults store'.faults
      → RefusesTests name mid store' ending → HasShown (core_of read) given (status_of ending)
  tests_shown name mid (TestsRefused place why) holds mid_still refuses =
      absurd ((reported_of name mid store' lines _ holds refuses).1.unread given are)
  tests_shown name mid (Shared (Unread unread)) holds mid_still refuses =
      absurd (omega (arith, refuses.0, mid_still.0, mid_still.1))
  tests_shown name mid (Shared (OverLimit over limit)) holds mid_still refuses =
      absurd (not_over (mid.held name) lines CONFIG_LIMIT holds short refuses.0)
  tests_shown name mid (Shared OutOfMemory) holds mid_still refuses = tt
  tests_shown name mid _ holds mid_still refuses = absurd refuses

  pattern_shown : (number : ℕ) → StopsRun read given (stop.Pattern number) old new → ⊥
  pattern_shown number stops =
      let rose : Rose old.patterns.refusals new.patterns.refusals =
      subst (λ (report : PatternsReport). Rose report.refusals new.patterns.refusals) stops.no_refusal
      stops.stops.0.rose in
      omega (arith, rose, still.0, still.1)

  write_shown : StopsRun read given stop.Write old new → ⊥
  write_shown stops =
      let rose : Rose old.out.faults new.out.faults = write_rose read given old new stops in
      omega (arith, rose, puts_still.0, puts_still.1)

  run_shown : (ending : TestsEnding) → RunEnds read given old new ending
      → HasShown (core_of read) given (status_of ending)
  run_shown (Shared Finished) ends = ends.1
  run_shown Differed ends = ends.1
  run_shown (Shared (ConfigRefused (Pattern number))) ends = absurd (pattern_shown number ends)
  run_shown (Shared WriteFailed) ends = absurd (write_shown ends)
  run_shown (Shared OutOfMemory) ends = tt
  run_shown _ ends = absurd ends

  same_shown : (config tests : List ℕ) (mid : StoreReport) (read' : Config) (given' : List Test) (ending : TestsEnding)
      → IsHeld (store.held config) text → IsHeld (mid.held tests) lines
      → HasConfig config store mid read' → HasTests tests mid store' given' → RunEnds read' given' old new ending
      → HasShown (core_of read) given (status_of ending)
  same_shown config tests mid read' given' ending holds held has gives ends =
      let same : read ≡ read' =
      (reported_of config store mid text (λ bytes. (length bytes ≤ CONFIG_LIMIT) × ReadsAs bytes read') holds
      has).1.alone
      read is in
      let those : given ≡ given' =
      (reported_of tests mid store' lines (λ bytes. (length bytes ≤ CONFIG_LIMIT) × ReadsAsTests bytes given') held
      gives).1.alone
      given are in
      run_shown ending (subst (λ (c : Config). RunEnds c given old new ending) (sym same)
      (subst (λ (ts : List Test). RunEnds read' ts old new ending) (sym those) ends))

  pub ends_shown : (config tests : List ℕ) (ending : TestsEnding) → IsHeld (store.held config) text
      → IsHeld (store.held tests) lines
      → TestsEnd config tests store store' old new ending → HasShown (core_of read) given (status_of ending)
  ends_shown config tests ending holds held (inl refused) = config_shown config ending holds refused.0
  ends_shown config tests ending holds held (inr (read', mid, has, reads, inl refused)) =
      tests_shown tests mid ending (held_since config has.0 tests lines store mid has.1 held)
      (still_since config has.0 store mid store'.faults has.1 reads_still) refused.0
  ends_shown config tests ending holds held (inr (read', mid, has, reads, inr (given', gives, ends))) =
      same_shown config tests mid read' given' ending holds (held_since config has.0 tests lines store mid has.1 held)
      has gives ends
