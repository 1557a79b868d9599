use Rattle.std.proofs.Common.{refl, ap, ◌∙◌}
use Rattle.live_index.proofs.SlotsLaws.{not_poisoned}
use Rattle.live_index.proofs.WriteLaws.{puts-represent}
use Rattle.live_index.proofs.index.EventIndex.put.Goals as goal

pub write-requires : goal.write-requires
write-requires g c = c.self.invariant.0 c.if-self.false

pub returns-clause-ok : goal.returns-clause-ok
returns-clause-ok g c = λ log before. record {
  sound = refl;
  live =
      puts-represent c.args.event.now c.self.inside.slots.numbers c.write.new.self.numbers
      c.self.inside.slots.events.values c.write.new.self.events.values
      (c.self.invariant.0 c.if-self.false).linked c.in_ok-write.ensures.stored.linked c.in_ok-write.ensures.puts log
      (not_poisoned c.self.inside.poisoned c.self.inside.slots.numbers c.self.inside.slots.events.values c.if-self.false
      ∙ ap (λ index. index.events) c.self.view_is ∙ before.live);
}
