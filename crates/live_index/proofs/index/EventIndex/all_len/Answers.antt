use Rattle.std.proofs.Common.{ap}
use Rattle.live_index.specs.Slots.{events_unless}
use Rattle.live_index.proofs.LengthLaws.{all_len, kept_len, still_stored}
use Rattle.live_index.proofs.index.EventIndex.all_len.Goals as goal

pub returns-in-Some-clause-ok : goal.returns-in-Some-clause-ok
returns-in-Some-clause-ok g c =
    kept_len c.self.inside.all_len c.in-Some.len
    (events_unless c.self.inside.poisoned c.self.inside.slots.numbers c.self.inside.slots.events.values)
    c.args.self.now.events c.args.pred.now c.requires c.in-Some.is c.self.invariant.1
    (ap (λ index. index.events) c.self.view_is)

pub invariant_of-self-2 : goal.invariant_of-self-2
invariant_of-self-2 g c = (
  λ sound.
      still_stored c.self.inside.slots.numbers c.found_len.new.self.numbers c.self.inside.slots.events.values
      c.found_len.new.self.events.values c.self.inside.slots.due c.found_len.new.self.due c.self.inside.slots.count
      c.found_len.new.self.count c.found_len.ensures.numbers c.found_len.ensures.events c.found_len.ensures.due
      c.found_len.ensures.count (c.self.invariant.0 sound),
  all_len c.in_ok-len.len c.args.pred.now c.self.inside.poisoned c.self.inside.slots.numbers
      c.found_len.new.self.numbers c.self.inside.slots.events.values c.found_len.new.self.events.values
      c.requires c.if-self.false c.found_len.ensures.numbers c.found_len.ensures.events c.in_ok-len.ensures.ok,
)
