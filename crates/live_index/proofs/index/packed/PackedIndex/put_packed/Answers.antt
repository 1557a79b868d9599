use Rattle.std.proofs.Common.{refl, ap, ◌∙◌}
use Rattle.live_index.proofs.SlotsLaws.{not_poisoned}
use Rattle.live_index.proofs.WriteLaws.{puts-represent}
use Rattle.live_index.proofs.index.packed.PackedIndex.put_packed.Goals as goal

pub returns-clause-ok : goal.returns-clause-ok
returns-clause-ok c = λ log before. record {
  sound = refl;
  live =
      puts-represent c.args.event.now c.self.inside.slots.numbers c.write_packed.new.self.numbers
      c.self.inside.slots.events.values c.write_packed.new.self.events.values
      (c.self.invariant.0 c.if-self.false).linked c.in_ok-write_packed.ensures.stored.linked
      c.in_ok-write_packed.ensures.puts log
      (not_poisoned c.self.inside.poisoned c.self.inside.slots.numbers c.self.inside.slots.events.values c.if-self.false
      ∙ ap (λ index. index.events) c.self.view_is ∙ before.live);
}
