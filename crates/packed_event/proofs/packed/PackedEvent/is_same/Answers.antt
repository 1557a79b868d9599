use Rattle.std.proofs.Common.{rules, ◌≡◌, ◌↔◌, sym, ap, ◌∙◌}
use Rattle.std.specs.Prelude.{IsTrue}
use Rattle.packed_event.specs.Kept.{bytes_of}
use Rattle.packed_event.proofs.Kept.{same_event}
use Rattle.packed_event.proofs.packed.PackedEvent.is_same.Goals as goal

pub returns : goal.returns
returns c =
    let a = c.bytes.ensures in
    let b = c.bytes-2.ensures in
    let eq : IsTrue c.eq.result ↔ (c.bytes.result.now ≡ c.bytes-2.result.now) = search rules in (
      λ same.
          same_event c.args.self.now c.args.other.now a.well_formed b.well_formed (rw a.bytes at a.few)
          (rw b.bytes at b.few)
          (sym a.bytes ∙ eq.0 same ∙ b.bytes),
      λ same. eq.1 (a.bytes ∙ ap bytes_of same ∙ sym b.bytes),
    )
