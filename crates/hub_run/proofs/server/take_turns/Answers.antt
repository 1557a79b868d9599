use Rattle.std.proofs.Common.{refl, ◌∙◌, arith}
use Rattle.std.proofs.lemmas.Result.{err_from_is_err_and}
use Rattle.hub_run.specs.Runs.{run_report}
use Rattle.hub_run.proofs.LoopLaws.{not_last, so_far_at_limit, so_far_cut, so_far_more, so_far_nothing, so_far_stopped}
use Rattle.hub_run.proofs.LoopLaws.{so_far_unasked}
use Rattle.hub_run.proofs.TurnLaws.{asked_answered, asked_known, turn_done}
use Rattle.hub_run.proofs.server.take_turns.Goals as goal

pub loop-taken-init : goal.loop-taken-init
loop-taken-init g c = record {
  whole = c.requires.whole;
  going = c.requires.going;
  so_far = so_far_nothing (g.L.Links.report c.args.links.now) c.args.quiet c.args.hub
      (run_report (g.P.Patterns.report c.args.patterns.now) c.args.steps.now.forks (g.O.Sink.report c.args.sink.now))
      c.requires.known;
  links_still = refl;
  sink_still = refl;
}

pub do_turn-requires-clause-known : goal.do_turn-requires-clause-known
do_turn-requires-clause-known g c =
    asked_known _ _ c.wants.result.now c.ask.new.buf c.in_ok-turn.turn c.in_ok-turn.ensures.asks _
    c.loop-taken.invariant.so_far.known

pub do_turn-requires-clause-answered : goal.do_turn-requires-clause-answered
do_turn-requires-clause-answered g c =
    asked_answered _ _ c.wants.result.now c.ask.new.buf c.in_ok-turn.turn c.in_ok-turn.ensures.asks

pub loop-taken-preserved : goal.loop-taken-preserved
loop-taken-preserved g c =
    let turn = c.in_ok-turn.turn in
    let so_far = c.loop-taken.invariant.so_far in
    record {
      whole = omega (arith, c.ask.auto.buf, c.loop-taken.invariant.whole);
      going = c.in_ok-do_turn.ensures.going;
      so_far =
          so_far_more _ _ _ _ c.args.turns _ _ _ _ _ _ _ so_far turn
          (turn_done _ _ _ _ _ _ _ _ c.wants.result.now c.ask.new.buf _ turn _ c.in_ok-turn.ensures.asks c.wants.ensures
          c.in_ok-turn.ensures.not_failed c.in_ok-turn.ensures.not_memory
          (c.piece_len-count.ensures.piece c.ask.new.buf) c.in_ok-do_turn.ensures.does)
          (not_last c.is_last.result turn c.is_last.ensures c.if-is_last.false) c.in_ok-do_turn.ensures.known;
      links_still =
          c.in_ok-do_turn.ensures.does.no_fault ∙ c.in_ok-turn.ensures.links_quiet (λ is. absurd (cc is))
          ∙ c.loop-taken.invariant.links_still;
      sink_still = c.in_ok-do_turn.ensures.no_fault ∙ c.loop-taken.invariant.sink_still;
    }

pub returns-then-is_last-clause-takes : goal.returns-then-is_last-clause-takes
returns-then-is_last-clause-takes g c =
    let turn = c.in_ok-turn.turn in
    so_far_stopped _ _ _ _ c.args.turns _ _ _ _ _ _ _ c.loop-taken.invariant.so_far turn
    (turn_done _ _ _ _ _ _ _ _ c.wants.result.now c.ask.new.buf _ turn _ c.in_ok-turn.ensures.asks c.wants.ensures
    c.in_ok-turn.ensures.not_failed c.in_ok-turn.ensures.not_memory (c.piece_len-count.ensures.piece c.ask.new.buf)
    c.in_ok-do_turn.ensures.does)
    (c.is_last.ensures.0 c.if-is_last.true) (omega arith)

pub returns-in_err-do_turn-clause-takes : goal.returns-in_err-do_turn-clause-takes
returns-in_err-do_turn-clause-takes g c =
    let p = err_from_is_err_and c.from_residual-in_err-do_turn.result c.from_residual-in_err-do_turn.ensures.1 in
    let turn = c.in_ok-turn.turn in
    rw (p.1, p.2)
    (so_far_cut _ _ _ _ c.args.turns _ _ _ _ _ _ _ c.loop-taken.invariant.so_far turn _
    (turn_done _ _ _ _ _ _ _ _ c.wants.result.now c.ask.new.buf _ turn _ c.in_ok-turn.ensures.asks c.wants.ensures
    c.in_ok-turn.ensures.not_failed c.in_ok-turn.ensures.not_memory (c.piece_len-count.ensures.piece c.ask.new.buf)
    c.in_err-do_turn.ensures.does)
    (omega arith))

pub returns-in_err-turn-clause-takes : goal.returns-in_err-turn-clause-takes
returns-in_err-turn-clause-takes g c =
    let p = err_from_is_err_and c.from_residual.result c.from_residual.ensures.1 in
    rw (p.1, p.2)
    (so_far_unasked _ _ _ _ _ _ _ _ _ _ c.ask.new.buf c.wants.result.now _ c.loop-taken.invariant.so_far c.wants.ensures
    c.in_err-turn.ensures.asks (omega arith))

pub returns-clause-takes : goal.returns-clause-takes
returns-clause-takes g c =
    so_far_at_limit _ _ _ _ _ _ _ _ _ (omega arith) c.loop-taken.invariant.so_far
