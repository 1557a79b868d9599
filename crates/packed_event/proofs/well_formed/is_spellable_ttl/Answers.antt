use Rattle.std.proofs.Common.{◌≡◌, ◌↔◌, ℕ, false, None, ap}
use Rattle.std.specs.Prelude.{IsTrue, nat_eq}
use Rattle.std.proofs.lemmas.Bool.{eq-eqb, eqb-true, false≢true}
use Rattle.riemann_msg.specs.Ttl.{IsSpellableTtl, IsTtl}
use Rattle.packed_event.proofs.Parts.{done, some_is}
use Rattle.packed_event.proofs.well_formed.is_spellable_ttl.Goals as goal

read_again : (ttl bits read : ℕ) → (IsSpellableTtl ttl → IsTtl bits ttl)
    → ((seconds : ℕ) → (done read ≡ done seconds) ↔ IsTtl bits seconds)
    → IsTrue (nat_eq read ttl) ↔ IsSpellableTtl ttl
read_again ttl bits read spells whole = (
  λ same. (bits, (whole ttl).0 (ap done (eqb-true read ttl same))),
  λ can. eq-eqb read ttl (some_is read ttl ((whole ttl).1 (spells can))),
)

not_read : (ttl bits : ℕ) → (IsSpellableTtl ttl → IsTtl bits ttl)
    → ((seconds : ℕ) → (None ≡ done seconds) ↔ IsTtl bits seconds)
    → IsTrue false ↔ IsSpellableTtl ttl
not_read ttl bits spells whole = (
  λ no. absurd (false≢true no),
  λ can. absurd (none_some ttl ((whole ttl).1 (spells can))),
)
  where
    none_some : (n : ℕ) → None ≡ done n → ⊥
    none_some n e = cc

pub returns-in-Some-ttl_of_bits : goal.returns-in-Some-ttl_of_bits
returns-in-Some-ttl_of_bits c =
    rw c.in-Some.is
    (read_again c.in-Some.ttl c.bits_of_ttl.result c.in-Some-ttl_of_bits.read c.bits_of_ttl.ensures.spells
    c.in-Some-ttl_of_bits.ensures.whole)

pub returns-in-None-ttl_of_bits : goal.returns-in-None-ttl_of_bits
returns-in-None-ttl_of_bits c =
    rw c.in-Some.is
    (not_read c.in-Some.ttl c.bits_of_ttl.result c.bits_of_ttl.ensures.spells c.in-None-ttl_of_bits.ensures.whole)
