use Rattle.std.proofs.Common.{ℕ, List, length, ◌<◌, ◌^◌, sym, subst, ◌∙◌}
use Rattle.packed_event.proofs.Kept.{kept_again, read_again}
use Rattle.packed_event.proofs.packed.PackedEvent.copy_of.Goals as goal

pub invariant_of-result : goal.invariant_of-result
invariant_of-result c =
    let copied = c.in_ok-bytes.ensures.items in
    let lent = c.bytes.ensures in
    kept_again c.in_ok-bytes.bytes.items c.places-places.result c.args.event.now (copied ∙ lent.bytes)
    c.places-places.ensures

pub returns : goal.returns
returns c =
    let copied = c.in_ok-bytes.ensures.items in
    let lent = c.bytes.ensures in
    read_again c.in_ok-bytes.bytes.items c.args.event.now (copied ∙ lent.bytes) lent.well_formed
    (subst (λ (t : List ℕ). length t < 2 ^ 32) (sym copied) lent.few)
