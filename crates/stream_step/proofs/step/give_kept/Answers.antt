use Rattle.std.proofs.Common.{ap}
use Rattle.ev_types.specs.declared.item.Item.TheVariants.{One}
use Rattle.stream_meaning.specs.declared.entry.Entry.TheVariants.{Item as In}
use Rattle.stream_step.proofs.KeptLaws.{kept_at, vector_kept, vector_passes_nothing}
use Rattle.stream_step.proofs.step.give_kept.Goals as goal

pub returns-in_ok-enter_kept-in-One-clause-represents : goal.returns-in_ok-enter_kept-in-One-clause-represents
returns-in_ok-enter_kept-in-One-clause-represents c kind h represents moment bound =
    kept_at kind c.enter_kept.new.kept h (In c.args.item.now) (In (One c.in-One.event)) c.args.now (ap In c.in-One.is)
    (λ m. c.in_ok-enter_kept-in-One.ensures.represents kind h represents m bound) moment

pub returns-in-Many-clause-represents : goal.returns-in-Many-clause-represents
returns-in-Many-clause-represents c kind h represents moment bound =
    vector_kept kind c.args.kept.now h c.args.item.now _ c.in-Many.is represents

pub returns-in-Many-clause-passes : goal.returns-in-Many-clause-passes
returns-in-Many-clause-passes c kind h represents moment bound =
    vector_passes_nothing kind c.args.kept.now h c.args.item.now _ c.in-Many.is represents
