use Rattle.command_test.specs.Running.{run_report}
use Rattle.command_test.proofs.RunLaws.{stops_showing, stops_unrun}
use Rattle.command_test.proofs.one.run_one.Goals as goal

pub returns-in-Ok-clause-stops : goal.returns-in-Ok-clause-stops
returns-in-Ok-clause-stops g c =
    stops_showing c.args.config.now c.args.test.now c.in-Ok.verdict
    (run_report (g.P.Patterns.report c.args.patterns.now) (g.O.Sink.report c.args.out.now))
    (run_report (g.P.Patterns.report c.judge.new.patterns) (g.O.Sink.report c.show.new.out)) c.show.result
    c.in-Ok.ensures.verdict c.in-Ok.ensures.same
    c.show.ensures.cuts

pub returns-in-Err-clause-stops : goal.returns-in-Err-clause-stops
returns-in-Err-clause-stops g c = λ read is.
    rw c.stop_of.ensures (stops_unrun read c.args.test.now c.in-Err.fault (g.P.Patterns.report c.args.patterns.now)
    (g.P.Patterns.report c.judge.new.patterns)
    (g.O.Sink.report c.args.out.now) (c.in-Err.ensures.fault read is))
