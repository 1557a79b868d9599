use Rattle.std.proofs.Common.{◌≡◌, Ok, Option, None, refl, ◌∙◌, subst, arith}
use Rattle.std.proofs.lemmas.Result.{err_from_is_err_and}
use Rattle.client_run.specs.Runs.{AddsRun}
use Rattle.client_run.specs.Taking.{TakesTurn}
use Rattle.client_run.specs.declared.outcome.Outcome.{Outcome}
use Rattle.client_run.proofs.LoopLaws.{none_of, so_far_at_limit, so_far_ended, so_far_failed, so_far_more}
use Rattle.client_run.proofs.LoopLaws.{so_far_nothing}
use Rattle.client_run.proofs.run.take_turns.Goals as goal

pub loop-taken-init : goal.loop-taken-init
loop-taken-init g c = record {
  whole = c.requires.whole;
  going = c.requires.going;
  so_far = so_far_nothing (g.L.Links.report c.args.links.now) c.args.client.now c.requires.known;
  links_still = refl;
}

pub returns-in_err-outcome-clause-takes : goal.returns-in_err-outcome-clause-takes
returns-in_err-outcome-clause-takes g c =
    let p = err_from_is_err_and c.from_residual.result c.from_residual.ensures.1 in
    rw (p.1, p.2) (so_far_failed (g.L.Links.report c.args.links.now) (g.L.Links.report c.loop-taken.links)
    (g.L.Links.report c.take_turn.new.links)
    c.args.client.now c.loop-taken.client c.take_turn.new.client c.loop-taken._taken c.loop-taken.invariant.so_far
    c.args.turns (omega arith) _ c.in_err-outcome.ensures.takes)

pub returns-in-Some-clause-takes : goal.returns-in-Some-clause-takes
returns-in-Some-clause-takes g c =
    so_far_ended (g.L.Links.report c.args.links.now) (g.L.Links.report c.loop-taken.links)
    (g.L.Links.report c.take_turn.new.links)
    c.args.client.now c.loop-taken.client c.take_turn.new.client c.loop-taken._taken c.loop-taken.invariant.so_far
    c.args.turns (omega arith) c.in-Some.outcome
    (subst (λ (o : Option Outcome). AddsRun (g.L.Links.report c.loop-taken.links)
    (g.L.Links.report c.take_turn.new.links) (TakesTurn c.loop-taken.client c.take_turn.new.client (Ok o)))
    c.in-Some.is c.in_ok-outcome.ensures.takes)

pub loop-taken-preserved : goal.loop-taken-preserved
loop-taken-preserved g c =
    let none : c.in_ok-outcome.field-0 ≡ None = none_of c.in_ok-outcome.field-0 c.in_default.not-Some in
    record {
      whole = omega (arith, c.take_turn.auto.buf, c.loop-taken.invariant.whole);
      going = c.in_ok-outcome.ensures.going none;
      so_far =
          so_far_more (g.L.Links.report c.args.links.now) (g.L.Links.report c.loop-taken.links)
          (g.L.Links.report c.take_turn.new.links)
          c.args.client.now c.loop-taken.client c.take_turn.new.client c.loop-taken._taken c.loop-taken.invariant.so_far
          c.in_ok-outcome.ensures.stream (c.in_ok-outcome.ensures.known none)
          (subst (λ (o : Option Outcome). AddsRun (g.L.Links.report c.loop-taken.links)
          (g.L.Links.report c.take_turn.new.links) (TakesTurn c.loop-taken.client c.take_turn.new.client (Ok o)))
          none c.in_ok-outcome.ensures.takes);
      links_still = c.in_ok-outcome.ensures.links_quiet (λ is. absurd (cc is)) ∙ c.loop-taken.invariant.links_still;
    }

pub returns-clause-takes : goal.returns-clause-takes
returns-clause-takes g c =
    so_far_at_limit (g.L.Links.report c.args.links.now) (g.L.Links.report c.loop-taken.links)
    (g.L.Links.report c.close.new.links)
    c.args.client.now c.loop-taken.client c.close.new.self c.loop-taken._taken c.loop-taken.invariant.so_far
    c.args.turns (omega arith) c.close.ensures.replies c.close.ensures.closes
