use Rattle.std.proofs.Common.{◌≡◌, ◌≤◌, ◌++◌, drop, length, take}
use Rattle.stream_tests.specs.Verdicts.{seen}
use Rattle.stream_tests.proofs.verdict.first_difference.Given as goal

abbrev pub invariant-loop-notice : goal.invariant-loop-notice
invariant-loop-notice l =
    (l.number ≤ length l.items)
    × (seen l.expect.name l.notices ≡ take l.number l.items ++ seen l.expect.name (drop l.notice-index l.notices))
