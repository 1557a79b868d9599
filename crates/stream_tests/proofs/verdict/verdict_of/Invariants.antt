use Rattle.std.proofs.Common.{◌≡◌, List, ◌++◌, drop}
use Rattle.std.specs.List.{AllByRecursion}
use Rattle.config_tests.specs.declared.entry.Expect.{Expect}
use Rattle.stream_tests.specs.Verdicts.{IsMet}
use Rattle.stream_tests.proofs.verdict.verdict_of.Given as goal

abbrev pub invariant-loop-expect : goal.invariant-loop-expect
invariant-loop-expect l =
    (before : List Expect) × (l.expects ≡ before ++ drop l.expect-index l.expects)
    × AllByRecursion (IsMet l.notices) before
