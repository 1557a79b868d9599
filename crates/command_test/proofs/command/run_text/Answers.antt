use Rattle.std.proofs.Common.{inl, inr, refl}
use Rattle.command_test.proofs.FileLaws.{run_has_tests, tests_not_complete, tests_run}
use Rattle.command_test.proofs.command.run_text.Goals as goal

pub returns-in-Ok-clause-ends : goal.returns-in-Ok-clause-ends
returns-in-Ok-clause-ends g c =
    λ read is. inr (c.in-Ok.given, c.in-Ok.ensures.tests, rw c.as_slice.ensures at (c.run_suite.ensures read is))

pub returns-in-Ok-clause-reads : goal.returns-in-Ok-clause-reads
returns-in-Ok-clause-reads g c =
    tests_run c.args.tests.now _ _ _ _ _ _ c.run_suite.result (c.run_suite.ensures c.requires.0 c.requires.1)
    c.in-Ok.ensures.read

pub returns-in-Ok-clause-unasked : goal.returns-in-Ok-clause-unasked
returns-in-Ok-clause-unasked g c =
    λ none. absurd (run_has_tests _ _ _ _ c.run_suite.result (c.run_suite.ensures c.requires.0 c.requires.1) none)

pub returns-in-Ok-clause-untouched : goal.returns-in-Ok-clause-untouched
returns-in-Ok-clause-untouched g c =
    λ none. absurd (run_has_tests _ _ _ _ c.run_suite.result (c.run_suite.ensures c.requires.0 c.requires.1) none)

pub returns-in-Err-clause-ends : goal.returns-in-Err-clause-ends
returns-in-Err-clause-ends g c = λ read is. inl (c.in-Err.ensures.refused, refl)

pub returns-in-Err-clause-quiet : goal.returns-in-Err-clause-quiet
returns-in-Err-clause-quiet g c =
    λ complete. absurd (tests_not_complete c.args.tests.now (g.S.Store.report c.args.store.now)
    (g.S.Store.report c.fetch_tests.new.store) c.in-Err.ending c.in-Err.ensures.refused complete)
