use Rattle.command_setup.specs.command_io.Reports.{reports}
use Rattle.command_serve.proofs.ServeLaws.{run_has_config, served}
use Rattle.command_serve.proofs.serve_command.serve_links.Goals as goal

pub returns-in-Ok-clause-ends : goal.returns-in-Ok-clause-ends
returns-in-Ok-clause-ends g c = λ err err'.
    let old = reports (g.S.Store.report c.args.store.now)
    (g.L.Links.report c.args.links.now) (g.O.Sink.report c.args.out.now)
    err (g.P.Patterns.report c.args.patterns.now) c.args.steps.now.forks in
    let new = reports (g.S.Store.report c.fetch_setup.new.store)
    (g.L.Links.report c.run.new.links) (g.O.Sink.report c.run.new.sink)
    err' (g.P.Patterns.report c.run.new.patterns) c.run.new.steps.forks in
    rw c.ending_of_run.ensures (served c.args.config.now c.args.turns c.in-Ok.setup old new c.run.result
    c.in-Ok.ensures.setup (rw c.in-Ok.ensures.same at c.run.ensures.runs) c.run.ensures.links_fault
    c.run.ensures.sink_fault c.run.ensures.links_quiet c.run.ensures.sink_quiet)

pub returns-in-Ok-clause-unasked : goal.returns-in-Ok-clause-unasked
returns-in-Ok-clause-unasked g c =
    λ refused. absurd (run_has_config c.run.result (rw c.ending_of_run.ensures at refused))
