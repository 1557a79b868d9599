use Rattle.std.proofs.Common.{refl, sym, ◌∙◌}
use Rattle.fork_by.specs.Slots.{with_order}
use Rattle.fork_by.proofs.SlotLaws.{set-changed, unset-changed}
use Rattle.fork_by.proofs.slots.set_order.Goals as goal

pub returns-in_default : goal.returns-in_default
returns-in_default c =
    unset-changed c.args.slots.now.items c.args.number (with_order c.args.order) (sym c.slot_of.ensures ∙ c.in_default.is)
    refl

pub returns : goal.returns
returns c =
    set-changed c.args.slots.now.items c.set_slot.new.slots.items c.args.number c.in-Some.slot (with_order c.args.order)
    (sym c.slot_of.ensures ∙ c.in-Some.is) c.set_slot.ensures.set
