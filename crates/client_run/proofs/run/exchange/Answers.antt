use Rattle.std.proofs.Common.{◌≡◌, ℕ, true, Ok, Err, refl, ap, sym, ◌∙◌, subst}
use Rattle.std.proofs.lemmas.Result.{err_from_is_err_and}
use Rattle.framing.specs.Frames.{has_frame}
use Rattle.riemann_client.specs.Client.{Represents}
use Rattle.riemann_client.specs.Exchange.{begun}
use Rattle.client_run.specs.Runs.{RunsTo}
use Rattle.client_run.specs.Taking.{ListensOn, TakesAll}
use Rattle.client_run.proofs.AddsLaws.{adds_then}
use Rattle.client_run.proofs.EndLaws.{ends_badly, ends_well}
use Rattle.client_run.proofs.run.exchange.Goals as goal

pub returns-in_err-outcome-clause-runs : goal.returns-in_err-outcome-clause-runs
returns-in_err-outcome-clause-runs g c =
    let p = err_from_is_err_and c.from_residual-in_err-outcome.result c.from_residual-in_err-outcome.ensures.1 in
    let address = c.args.address.now in
    let frames = c.args.frames in
    let client = c.over-client.result in
    let some : has_frame frames ≡ true =
    ap has_frame (sym c.as_slice.ensures) ∙ sym c.has_request.ensures ∙ c.if-not-has_request.false in
    rw (p.1, p.2) (adds_then (g.L.Links.report c.args.links.now) (g.L.Links.report c.listen.new.links)
    (g.L.Links.report c.take_turns.new.links)
    (ListensOn address (Ok c.in_ok-secs.secs)) (TakesAll client c.take_turns.new.client c.args.turns (Err _))
    (RunsTo address frames c.args.turns (Err _))
    c.in_ok-secs.ensures.listens c.in_err-outcome.ensures.takes
    (λ first second listens takes. ends_badly address frames c.args.turns some client c.take_turns.new.client
    c.in_ok-secs.secs first second listens c.over-client.ensures.stream
    (subst (λ (n : ℕ). Represents client (begun n)) c.min.ensures c.over-client.ensures.represents)
    c.over-client.ensures.wants _ takes))

pub returns-clause-runs : goal.returns-clause-runs
returns-clause-runs g c =
    let address = c.args.address.now in
    let frames = c.args.frames in
    let client = c.over-client.result in
    let some : has_frame frames ≡ true =
    ap has_frame (sym c.as_slice.ensures) ∙ sym c.has_request.ensures ∙ c.if-not-has_request.false in
    adds_then (g.L.Links.report c.args.links.now) (g.L.Links.report c.listen.new.links)
    (g.L.Links.report c.take_turns.new.links)
    (ListensOn address (Ok c.in_ok-secs.secs))
    (TakesAll client c.take_turns.new.client c.args.turns (Ok c.in_ok-outcome.outcome))
    (RunsTo address frames c.args.turns (Ok _))
    c.in_ok-secs.ensures.listens c.in_ok-outcome.ensures.takes
    (λ first second listens takes. ends_well address frames c.args.turns some client c.take_turns.new.client
    c.in_ok-secs.secs first second listens c.over-client.ensures.stream
    (subst (λ (n : ℕ). Represents client (begun n)) c.min.ensures c.over-client.ensures.represents)
    c.over-client.ensures.wants _ c.in_ok-outcome.outcome c.into_replies.ensures refl takes)
