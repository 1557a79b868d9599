use Rattle.std.proofs.Common.{ℕ, List, length, ◌<◌, ◌^◌, sym, subst, ◌∙◌}
use Rattle.packed_event.proofs.Kept.{kept_again, read_again}
use Rattle.packed_event.proofs.packed.PackedEvent.become_copy.Goals as goal

pub invariant_of-self-2 : goal.invariant_of-self-2
invariant_of-self-2 c =
    let copied = c.in_ok-overwrite.ensures.ok in
    let lent = c.bytes.ensures in
    kept_again c.overwrite.new.block.items c.places-self-inside.result c.args.event.now (copied ∙ lent.bytes)
    c.places-self-inside.ensures

pub returns-clause-ok : goal.returns-clause-ok
returns-clause-ok c =
    let copied = c.in_ok-overwrite.ensures.ok in
    let lent = c.bytes.ensures in
    read_again c.overwrite.new.block.items c.args.event.now (copied ∙ lent.bytes) lent.well_formed
    (subst (λ (t : List ℕ). length t < 2 ^ 32) (sym copied) lent.few)
