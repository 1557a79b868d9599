use Rattle.event_core.proofs.Moves.{handled-index, handled-notices}
use Rattle.event_core.proofs.outputs.handle_each.Goals as goal

pub loop-output-preserved : goal.loop-output-preserved
loop-output-preserved c =
    let done = c.loop-output.yielded in
    let output = c.in-Some.output in (
      handled-index c.args.index.now c.loop-output.index c.handle_one.new.index done output c.loop-output.invariant.0
          c.in_ok-handle_one.ensures.index,
      handled-notices c.args.out.now c.loop-output.out c.handle_one.new.out done output c.loop-output.invariant.1
          c.in_ok-handle_one.ensures.notices,
    )
