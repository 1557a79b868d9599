use Rattle.std.proofs.Common.{◌≡◌, ◌+◌, Bool, List, arith, subst, sym, take}
use Rattle.std.specs.Prelude.{◌&&◌}
use Rattle.std.proofs.lemmas.List.{take_all}
use Rattle.std.proofs.lemmas.Result.{err_from_is_err_and}
use Rattle.config_tests.specs.Events.{IsShort}
use Rattle.config_tests.specs.declared.entry.Test.{Test}
use Rattle.command_test.specs.Running.{RunReport, ShowsAll, run_report}
use Rattle.command_test.proofs.RunLaws.{all_at, and_false, and_true, shows_more, shows_none, stops_at}
use Rattle.command_test.proofs.run.run_all.Goals.{else-all, then-all}
use Rattle.command_test.proofs.run.run_all.Goals as goal

pub loop-test-init : goal.loop-test-init
loop-test-init g c = λ read is. shows_none read _

pub run_one-requires-clause-short : goal.run_one-requires-clause-short
run_one-requires-clause-short g c =
    all_at IsShort c.args.tests.now c.loop-test.test-index c.test-item.result c.requires.short (omega arith)
    c.test-item.is

pub loop-test-preserved : goal.loop-test-preserved
loop-test-preserved g c = λ read is.
    let old : RunReport = run_report (g.P.Patterns.report c.args.patterns.now) (g.O.Sink.report c.args.out.now) in
    let mid : RunReport = run_report (g.P.Patterns.report c.loop-test.patterns) (g.O.Sink.report c.loop-test.out) in
    let new : RunReport = run_report (g.P.Patterns.report c.run_one.new.patterns) (g.O.Sink.report c.run_one.new.out) in
    let all : Bool = c.loop-test.all in
    let pass : Bool = c.in_ok-passed.passed in
    let both : c.if-all.all ≡ (all && pass) = elim c.if-all.branch [
      | then-all w ↦ and_true all pass c.if-all.all w.if-all.true w.all-is
      | else-all w ↦ and_false all pass c.if-all.all w.if-all.false w.all-is
    ] in
    subst (λ (b : Bool). ShowsAll read (take (c.loop-test.test-index + 1) c.args.tests.now) b old new) (sym both)
    (shows_more c.verdicts_are_one.ensures read c.args.tests.now c.loop-test.test-index c.test-item.result all pass old
    mid new (omega arith) c.test-item.is
    (c.loop-test.invariant read is) (c.in_ok-passed.ensures.shows read is))

pub returns-in_err-passed-clause-stops : goal.returns-in_err-passed-clause-stops
returns-in_err-passed-clause-stops g c =
    let failed = err_from_is_err_and c.from_residual.result c.from_residual.ensures.1 in
    rw (failed.1, failed.2)
    (λ read is. stops_at read c.args.tests.now c.loop-test.test-index c.test-item.result c.loop-test.all _ _ _ _
    (omega arith) c.test-item.is
    (c.loop-test.invariant read is) (c.in_err-passed.ensures.stops read is))

pub returns-clause-shows : goal.returns-clause-shows
returns-clause-shows g c = λ read is.
    let old : RunReport = run_report (g.P.Patterns.report c.args.patterns.now) (g.O.Sink.report c.args.out.now) in
    let new : RunReport = run_report (g.P.Patterns.report c.loop-test.patterns) (g.O.Sink.report c.loop-test.out) in
    subst (λ (tests : List Test). ShowsAll read tests c.loop-test.all old new)
    (take_all c.loop-test.test-index c.args.tests.now (omega arith)) (c.loop-test.invariant read is)
