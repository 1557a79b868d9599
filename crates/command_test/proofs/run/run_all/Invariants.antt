use Rattle.std.proofs.Common.{take}
use Rattle.sexp_config.specs.Config.{IsConfigOf}
use Rattle.sexp_config.specs.declared.config.Config.{Config}
use Rattle.command_test.specs.Running.{ShowsAll, run_report}
use Rattle.command_test.proofs.run.run_all.Given as goal

abbrev pub invariant-loop-test : goal.invariant-loop-test
invariant-loop-test g l = (read : Config) → IsConfigOf l.config read
    → ShowsAll read (take l.test-index l.tests) l.all
    (run_report (g.P.Patterns.report l.fn.patterns) (g.O.Sink.report l.fn.out))
    (run_report (g.P.Patterns.report l.patterns) (g.O.Sink.report l.out))
