use Rattle.std.proofs.Common.{◌∙◌, ap}
use Rattle.fork_by.specs.Slots.{slot_at}
use Rattle.fork_by.proofs.SlotLaws.{slot_grown}
use Rattle.fork_by.proofs.slots.reach.Goals as goal

pub loop-slots-preserved : goal.loop-slots-preserved
loop-slots-preserved c = λ other.
    ap (slot_at other) c.in_ok-push.ensures.items ∙ slot_grown other c.loop-slots.slots.items
    ∙ c.loop-slots.invariant other
