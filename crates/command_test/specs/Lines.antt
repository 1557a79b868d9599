-- Tests with their verdicts, and the line of each.
use Rattle.std.specs.Prelude.{ℕ, Bool, true, false, List, [], ◌∷◌, ◌++◌, codes}
use Rattle.std.specs.Fmt.{decimal}
use Rattle.config_tests.specs.declared.entry.Test.{Test}
use Rattle.event_core.specs.Core.{CoreConfig}
use Rattle.notice_sink.specs.Quoting.{quoted}
use Rattle.stream_tests.specs.Verdicts.{IsVerdictOn}
use Rattle.stream_tests.specs.declared.verdict.Verdict.{Verdict}
use Rattle.stream_tests.specs.declared.verdict.Verdict.TheVariants.{Pass, Differs}

-- a test, and a verdict on it
pub record Judged : Type 0 where
  pub test : Test
  pub verdict : Verdict

-- the verdict is the one on the test, of streams and an index to which its entries come
abbrev pub IsJudged : CoreConfig → Judged → Type 0
IsJudged core judged = IsVerdictOn core judged.test judged.verdict

abbrev pub is_pass : Verdict → Bool
is_pass Pass = true
is_pass (Differs notice number) = false

abbrev pub pass_line : List ℕ → List ℕ
pass_line name = codes "pass " ++ (quoted name ++ 10 ∷ [])

-- the first expectation that is not met is of the notice, and its items differ first at the number
abbrev pub fail_line : List ℕ → List ℕ → ℕ → List ℕ
fail_line name notice number =
    codes "fail "
    ++ (quoted name ++ (codes ": notice " ++ (quoted notice ++ (codes " number " ++ (decimal number ++ 10 ∷ [])))))

-- the line of the verdict on the test of this name
abbrev pub verdict_line : List ℕ → Verdict → List ℕ
verdict_line name Pass = pass_line name
verdict_line name (Differs notice number) = fail_line name notice number

abbrev pub judged_test : Judged → Test
judged_test judged = judged.test

abbrev pub judged_line : Judged → List ℕ
judged_line judged = verdict_line judged.test.name judged.verdict
