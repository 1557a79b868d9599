use Rattle.std.proofs.Common.{ℕ, bit_and, eqb-true, ap, sym, ◌∙◌}
use Rattle.packed_event.proofs.Ascii.{from_word}
use Rattle.packed_event.proofs.body.are_ascii.Goals as goal

pub returns : goal.returns
returns c = λ passed.
    from_word c.args.bytes.now c.fits-bytes c.told-bytes
    (ap (λ (word : ℕ). bit_and word 0x8080_8080_8080_8080) (sym c.from_le_bytes.ensures)
    ∙ eqb-true (bit_and c.from_le_bytes.result 0x8080_8080_8080_8080) 0 passed)
