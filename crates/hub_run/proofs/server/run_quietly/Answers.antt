use Rattle.std.proofs.Common.{refl, inl}
use Rattle.std.proofs.lemmas.Result.{err_from_is_err_and}
use Rattle.hub_run.proofs.AddsLaws.{adds_nothing, adds_then, adds_weaken}
use Rattle.hub_run.proofs.LoopLaws.{ran, unclosed_nothing, unheard, unopened}
use Rattle.hub_run.proofs.server.run_quietly.Goals as goal

pub take_turns-requires-clause-known : goal.take_turns-requires-clause-known
take_turns-requires-clause-known g c =
    unclosed_nothing (g.L.Links.report c.listen.new.links).log _ c.in_ok-hub.ensures.wants

pub returns-in_err-buf-clause-runs : goal.returns-in_err-buf-clause-runs
returns-in_err-buf-clause-runs g c =
    let p = err_from_is_err_and c.from_residual.result c.from_residual.ensures.1 in
    rw (p.1, p.2) (adds_nothing _ _ (inl (record { is = refl; same = refl })))

pub returns-in_err-secs-clause-runs : goal.returns-in_err-secs-clause-runs
returns-in_err-secs-clause-runs g c =
    let p = err_from_is_err_and c.from_residual-in_err-secs.result c.from_residual-in_err-secs.ensures.1 in
    rw (p.1, p.2) (adds_weaken _ _ _ _ (unheard c.args.setup c.args.turns c.args.quiet _ _) c.in_err-secs.ensures.listens)

pub returns-in_err-hub-clause-runs : goal.returns-in_err-hub-clause-runs
returns-in_err-hub-clause-runs g c =
    let p = err_from_is_err_and c.from_residual-in_err-hub.result c.from_residual-in_err-hub.ensures.1 in
    rw (p.1, p.2) (adds_weaken _ _ _ _ (unopened c.args.setup c.args.turns c.args.quiet _ c.in_ok-secs.secs)
    c.in_ok-secs.ensures.listens)

pub returns-clause-runs : goal.returns-clause-runs
returns-clause-runs g c =
    adds_then _ _ _ _ _ _ c.in_ok-secs.ensures.listens c.take_turns.ensures.takes
    (λ first second listens takes.
    ran c.args.setup c.args.turns c.args.quiet _ _ c.in_ok-secs.secs _ first second listens
    (takes _ c.in_ok-hub.ensures.follows))
