use Rattle.std.proofs.Common.{◌≡◌, ℕ, take}
use Rattle.fork_by.specs.Renew.{renewed}
use Rattle.fork_by.specs.Slots.{slot_at}
use Rattle.fork_by.proofs.renew.renew.Given as goal

abbrev pub invariant-loop-i : goal.invariant-loop-i
invariant-loop-i l =
    (q : ℕ) → slot_at q l.slots.items ≡ renewed q 0 (take l.i l.numbers.items) (slot_at q l.initial.slots.items)
