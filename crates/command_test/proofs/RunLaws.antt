-- Tests that were run one after another, and how the run ends.
use Rattle.std.proofs.Common.{◌≡◌, ℕ, zero, suc, ◌+◌, ◌<◌, List, [], ◌∷◌, ◌++◌, length, take, drop, get_or, Bool, true}
use Rattle.std.proofs.Common.{false, Result, Ok, Err, refl, ap, sym, ◌∙◌, subst, arith}
use Rattle.std.specs.Prelude.{◌&&◌, MatchBool, IfErr, IfOk, OnOk, map}
use Rattle.std.specs.List.{AllByRecursion}
use Rattle.std.specs.Option.{option_map}
use Rattle.std.proofs.lemmas.List.{map-append, take_more}
use Rattle.command_io.proofs.BuildLaws.{refused_pattern, same_report}
use Rattle.command_io.specs.declared.ending.Ending.TheVariants.{Finished}
use Rattle.command_io.specs.hub_meaning.Verdicts.{PatternsReport}
use Rattle.config_tests.specs.declared.entry.Test.{Test}
use Rattle.event_core.specs.Core.{CoreConfig, notices_by}
use Rattle.ports.specs.Writing.{Puts, SinkReport}
use Rattle.sexp_config.specs.Config.{IsConfigOf}
use Rattle.sexp_config.specs.declared.config.Config.{Config}
use Rattle.stream_plan.specs.Ready.{plan_patterns}
use Rattle.stream_tests.specs.Running.{HasCause, core_of, refused_of}
use Rattle.stream_tests.specs.Verdicts.{IsVerdictOn, VerdictsAreOne, arrivals_in}
use Rattle.stream_tests.specs.declared.fault.RunFault.{RunFault}
use Rattle.stream_tests.specs.declared.fault.RunFault.TheVariants as fault
use Rattle.stream_tests.specs.declared.verdict.Verdict.{Verdict}
use Rattle.stream_tests.specs.declared.verdict.Verdict.TheVariants.{Pass, Differs}
use Rattle.command_test.specs.Lines.{IsJudged, Judged, is_pass, judged_line, judged_test, verdict_line}
use Rattle.command_test.specs.Running.{AllPass, GotLines, Judges, Passes, RunEnds, RunReport, ShowsAll, ShowsOne}
use Rattle.command_test.specs.Running.{StopsAt, StopsRun, run_report}
use Rattle.command_test.specs.Stopping.{CutsLine, IsUnrun, ending_of, stop_of}
use Rattle.command_test.specs.declared.ending.TestsEnding.TheVariants.{Shared, Differed}
use Rattle.command_test.specs.declared.stop.Stop.{Stop}
use Rattle.command_test.specs.declared.stop.Stop.TheVariants.{Pattern, Write, Memory}
use Rattle.command_test.proofs.LineLaws.{lines_more, no_lines}

-- ---- lists

pub all_at : {A : Type 0} (P : A → Type 0) (xs : List A) (i : ℕ) (x : A) → AllByRecursion P xs → i < length xs
    → x ≡ get_or xs i x → P x
all_at P [] i x all inside is = absurd (omega arith)
all_at P (y ∷ xs) zero x all inside is = subst P (sym is) all.0
all_at P (y ∷ xs) (suc i) x all inside is = all_at P xs i x all.1 (omega arith) is

all_more : {A : Type 0} (P : A → Type 0) (xs : List A) (x : A) → AllByRecursion P xs → P x
    → AllByRecursion P (xs ++ x ∷ [])
all_more P [] x all it = (it, tt)
all_more P (y ∷ xs) x all it = (all.0, all_more P xs x all.1 it)

all_before : {A : Type 0} (P : A → Type 0) (xs : List A) (x : A) → AllByRecursion P (xs ++ x ∷ []) → AllByRecursion P xs
all_before P [] x all = tt
all_before P (y ∷ xs) x all = (all.0, all_before P xs x all.1)

last_of : {A : Type 0} (P : A → Type 0) (xs : List A) (x : A) → AllByRecursion P (xs ++ x ∷ []) → P x
last_of P [] x all = all.0
last_of P (y ∷ xs) x all = last_of P xs x all.1

split_at : {A : Type 0} (xs : List A) (i : ℕ) (x : A) → i < length xs → x ≡ get_or xs i x
    → xs ≡ take i xs ++ x ∷ drop (suc i) xs
split_at {A} [] i x inside is = absurd (omega arith)
split_at {A} (y ∷ xs) zero x inside is = ap (λ (head : A). head ∷ xs) (sym is)
split_at {A} (y ∷ xs) (suc i) x inside is = ap (λ (rest : List A). y ∷ rest) (split_at xs i x (omega arith) is)

next_front : (tests : List Test) (i : ℕ) (test : Test) → i < length tests → test ≡ get_or tests i test
    → take (i + 1) tests ≡ take i tests ++ test ∷ []
next_front tests i test inside is = take_more tests i test inside ∙ ap (λ (x : Test). take i tests ++ x ∷ []) (sym is)

-- ---- one more test

judges_more : (core : CoreConfig) (tests : List Test) (test : Test) (verdict : Verdict) (old mid new : SinkReport)
    → Judges core tests old mid
    → IsVerdictOn core test verdict → Puts mid (verdict_line test.name verdict) new
    → Judges core (tests ++ test ∷ []) old new
judges_more core tests test verdict old mid new judges is puts =
    let one : Judged = record { test = test; verdict = verdict } in
    record {
      judged = judges.judged ++ one ∷ [];
      are = map-append judged_test judges.judged (one ∷ []) ∙ ap (λ (front : List Test). front ++ test ∷ []) judges.are;
      each = all_more (IsJudged core) judges.judged one judges.each is;
      lines =
          subst (λ (lines : List (List ℕ)). GotLines old lines new)
          (sym (map-append judged_line judges.judged (one ∷ [])))
          (lines_more (map judged_line judges.judged) (judged_line one) old mid new judges.lines puts);
    }

not_both : VerdictsAreOne → (core : CoreConfig) (test : Test) (name : List ℕ) (number : ℕ) → Passes core test
    → IsVerdictOn core test (Differs name number) → ⊥
not_both law core test name number pass differs =
    let same : Pass ≡ Differs name number =
    law (notices_by core (arrivals_in test.entries)) test.expects Pass (Differs name number) pass differs in
    cc

passed_more : VerdictsAreOne → (core : CoreConfig) (tests : List Test) (test : Test) (verdict : Verdict) (all : Bool)
    → IsVerdictOn core test verdict
    → MatchBool all (AllPass core tests) (AllPass core tests → ⊥)
    → MatchBool (all && is_pass verdict) (AllPass core (tests ++ test ∷ [])) (AllPass core (tests ++ test ∷ []) → ⊥)
passed_more law core tests test Pass true is known = all_more (Passes core) tests test known is
passed_more law core tests test (Differs name number) true is known =
    λ every. not_both law core test name number (last_of (Passes core) tests test every) is
passed_more law core tests test verdict false is known = λ every. known (all_before (Passes core) tests test every)

-- no test was run yet
pub shows_none : (config : Config) (old : RunReport) → ShowsAll config [] true old old
shows_none config old = record {
  judges = record { judged = []; are = refl; each = tt; lines = no_lines old.out };
  passed = tt;
  no_refusal = refl;
}

pub shows_more : VerdictsAreOne
    → (config : Config) (tests : List Test) (i : ℕ) (test : Test) (all pass : Bool) (old mid new : RunReport)
    → i < length tests
    → test ≡ get_or tests i test → ShowsAll config (take i tests) all old mid → ShowsOne config test pass mid new
    → ShowsAll config (take (i + 1) tests) (all && pass) old new
shows_more law config tests i test all pass old mid new inside is shown one =
    let core : CoreConfig = core_of config in
    let front : List Test = take i tests in
    subst (λ (more : List Test). ShowsAll config more (all && pass) old new) (sym (next_front tests i test inside is))
    (record {
      judges = judges_more core front test one.verdict old.out mid.out new.out shown.judges one.is one.puts;
      passed =
          subst
          (λ (b : Bool).
          MatchBool (all && b) (AllPass core (front ++ test ∷ [])) (AllPass core (front ++ test ∷ []) → ⊥))
          (sym one.passed)
          (passed_more law core front test one.verdict all one.is shown.passed);
      no_refusal = one.no_refusal ∙ shown.no_refusal;
    })

-- whether all passed, and one more
pub and_true : (all pass both : Bool) → all ≡ true → both ≡ pass → both ≡ (all && pass)
and_true all pass both is same = rw is same

pub and_false : (all pass both : Bool) → all ≡ false → both ≡ all → both ≡ (all && pass)
and_false all pass both is same = rw is (same ∙ is)

-- the run stopped at a test
pub stops_at : (config : Config) (tests : List Test) (i : ℕ) (test : Test) (all : Bool) (stop : Stop)
    (old mid new : RunReport)
    → i < length tests
    → test ≡ get_or tests i test → ShowsAll config (take i tests) all old mid → StopsAt config test stop mid new
    → StopsRun config tests stop old new
stops_at config tests i test all stop old mid new inside is shown stops = record {
  before = take i tests;
  test = test;
  later = drop (suc i) tests;
  whole = split_at tests i test inside is;
  between = mid;
  judges = shown.judges;
  no_refusal = shown.no_refusal;
  stops = stops;
}

-- ---- how a run ends

pub ends_passed : (config : Config) (tests : List Test) (old new : RunReport) → ShowsAll config tests true old new
    → RunEnds config tests old new (Shared Finished)
ends_passed config tests old new shown = (shown.judges, shown.passed, shown.no_refusal)

pub ends_differed : (config : Config) (tests : List Test) (old new : RunReport) → ShowsAll config tests false old new
    → RunEnds config tests old new Differed
ends_differed config tests old new shown = (shown.judges, shown.passed, shown.no_refusal)

pub ends_stopped : (config : Config) (tests : List Test) (stop : Stop) (old new : RunReport)
    → StopsRun config tests stop old new → RunEnds config tests old new (Shared (ending_of stop))
ends_stopped config tests (Pattern number) old new stops = stops
ends_stopped config tests _ old new stops = stops

-- ---- the patterns of a test that was run, or was not

pub run_same : (texts : List (List ℕ)) (old new : PatternsReport) (result : Result Verdict RunFault)
    → HasCause texts old.refusals new.refusals result
    → new.refused ≡ option_map (λ refused. refused ++ refused_of texts result) old.refused → OnOk result (new ≡ old)
run_same texts old new (Ok verdict) cause reported = same_report old new cause reported
run_same texts old new (Err stop) cause reported = tt

pub run_fault : (texts : List (List ℕ)) (old new : PatternsReport) (result : Result Verdict RunFault)
    → HasCause texts old.refusals new.refusals result
    → new.refused ≡ option_map (λ refused. refused ++ refused_of texts result) old.refused
    → IfErr result (IsUnrun texts old new)
run_fault texts old new (Ok verdict) cause reported = tt
run_fault texts old new (Err (fault.Pattern number)) cause reported =
    refused_pattern texts number old new cause.0 cause.1 reported
run_fault texts old new (Err fault.Memory) cause reported = same_report old new cause reported

-- what is known of one configuration that the text is holds of each
pub verdict_of_each : (test : Test) (text : List ℕ) (config : Config) (result : Result Verdict RunFault)
    → ((read : Config) → IsConfigOf text read → config ≡ read)
    → IfOk result (λ verdict. IsVerdictOn (core_of config) test verdict)
    → IfOk result (λ verdict. (read : Config) → IsConfigOf text read → IsVerdictOn (core_of read) test verdict)
verdict_of_each test text config (Ok verdict) same on =
    λ read is. subst (λ (c : Config). IsVerdictOn (core_of c) test verdict) (same read is) on
verdict_of_each test text config (Err stop) same on = tt

pub fault_of_each : (text : List ℕ) (config : Config) (old new : PatternsReport) (result : Result Verdict RunFault)
    → ((read : Config) → IsConfigOf text read → config ≡ read)
    → IfErr result (IsUnrun (plan_patterns config.plan) old new)
    → IfErr result (λ stop. (read : Config) → IsConfigOf text read → IsUnrun (plan_patterns read.plan) old new stop)
fault_of_each text config old new (Ok verdict) same unrun = tt
fault_of_each text config old new (Err stop) same unrun =
    λ read is. subst (λ (c : Config). IsUnrun (plan_patterns c.plan) old new stop) (same read is) unrun

-- ---- how a run stops at a test

same_run : (old new : RunReport) → new.patterns ≡ old.patterns → new.out ≡ old.out → new ≡ old
same_run old new patterns out =
    ap (λ (report : PatternsReport). run_report report new.out) patterns
    ∙ ap (λ (report : SinkReport). run_report old.patterns report) out

pub stops_showing : (text : List ℕ) (test : Test) (verdict : Verdict) (old new : RunReport) (result : Result Bool Stop)
    → ((read : Config) → IsConfigOf text read → IsVerdictOn (core_of read) test verdict) → new.patterns ≡ old.patterns
    → IfErr result (CutsLine (verdict_line test.name verdict) old.out new.out)
    → IfErr result (λ stop. (read : Config) → IsConfigOf text read → StopsAt read test stop old new)
stops_showing text test verdict old new (Ok pass) on same cuts = tt
stops_showing text test verdict old new (Err (Pattern number)) on same cuts = absurd cuts
stops_showing text test verdict old new (Err Write) on same cuts =
    λ read is. (record { verdict = verdict; is = on read is; fails = cuts }, same)
stops_showing text test verdict old new (Err Memory) on same cuts = λ read is. same_run old new same cuts

pub stops_unrun : (config : Config) (test : Test) (unrun : RunFault) (old new : PatternsReport) (out : SinkReport)
    → IsUnrun (plan_patterns config.plan) old new unrun
    → StopsAt config test (stop_of unrun) (run_report old out) (run_report new out)
stops_unrun config test (fault.Pattern number) old new out is = (is, refl)
stops_unrun config test fault.Memory old new out is = ap (λ (report : PatternsReport). run_report report out) is
