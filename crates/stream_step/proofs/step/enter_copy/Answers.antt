use Rattle.stream_step.proofs.KeptLaws.{given_meant}
use Rattle.stream_step.proofs.step.enter_copy.Goals as goal

pub returns-clause-passes : goal.returns-clause-passes
returns-clause-passes c kind h represents moment bound =
    given_meant c.fresh-made.result c.item.new.out kind h c.in_ok-copy.field-0 c.args.event.now c.fresh-made.ensures
    c.in_ok-copy.ensures
    (c.in_ok-item.ensures.emits kind h represents moment bound)
