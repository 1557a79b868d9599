use Rattle.stream_meaning.specs.declared.entry.Entry.TheVariants.{Tick, Item as In}
use Rattle.stream_step.proofs.KeptLaws.{kept_at}
use Rattle.stream_step.proofs.step.advance_kept.Goals as goal

pub returns-in_ok-tick_kept-in-Tick-clause-represents : goal.returns-in_ok-tick_kept-in-Tick-clause-represents
returns-in_ok-tick_kept-in-Tick-clause-represents c kind h represents moment bound =
    kept_at kind c.tick_kept.new.kept h c.args.entry.now Tick c.args.now c.in-Tick.is
    (λ m. c.in_ok-tick_kept-in-Tick.ensures.represents kind h represents m bound) moment

pub returns-in_ok-give_kept-in-Item-clause-represents : goal.returns-in_ok-give_kept-in-Item-clause-represents
returns-in_ok-give_kept-in-Item-clause-represents c kind h represents moment bound =
    kept_at kind c.give_kept.new.kept h c.args.entry.now (In c.in-Item.item) c.args.now c.in-Item.is
    (λ m. c.in_ok-give_kept-in-Item.ensures.represents kind h represents m bound) moment
