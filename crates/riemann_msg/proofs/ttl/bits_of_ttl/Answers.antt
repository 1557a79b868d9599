use Rattle.std.proofs.Common.{◌≡◌, ◌≢◌, ℕ, ◌+◌, ◌*◌, ◌/◌, ◌%◌, ◌^◌, ◌<◌, sym, ◌∙◌, ap, subst, arith}
use Rattle.std.proofs.lemmas.Nat.{shl_whole}
use Rattle.riemann_msg.specs.Ttl.{IsTtl, IsSpellableTtl, bits_of}
use Rattle.riemann_msg.proofs.TtlBits.{top_of, top_digit, digits_spelled, bits_of-some, bits_of-none, one_spelling}
use Rattle.riemann_msg.proofs.ttl.bits_of_ttl.Goals as goal

pub returns-then-ttl-eq0-clause-bits : goal.returns-then-ttl-eq0-clause-bits
returns-then-ttl-eq0-clause-bits c = bits_of-none ∙ ap bits_of (sym c.if-ttl-eq0.true)

pub significand-requires-clause-least : goal.significand-requires-clause-least
significand-requires-clause-least c = (top_digit c.args.ttl (omega arith) (omega arith)).1

pub significand-requires-clause-greatest : goal.significand-requires-clause-greatest
significand-requires-clause-greatest c = (top_digit c.args.ttl (omega arith) (omega arith)).2

-- what the code makes is the spelling by digits
made : (n s : ℕ) → n ≢ 0 → n < 2 ^ 32 → s ≡ n * 2 ^ 23 / 2 ^ top_of n
    → (126 + top_of n) * 2 ^ 23 % 2 ^ 32 + s ≡ digits_spelled n
made n s some below is =
    let top = top_digit n (omega arith) below in
    ap (λ x. x + s) (shl_whole (126 + top_of n) 9 23 32 (omega (arith, top.0)) (omega arith))
    ∙ ap (λ x. (126 + top_of n) * 2 ^ 23 + x) is

spelled_again : (n bits : ℕ) → 0 < n → bits ≡ digits_spelled n → IsSpellableTtl n → IsTtl bits n
spelled_again n bits some is (found, reported) =
    subst (λ (b : ℕ). IsTtl b n) (one_spelling found n some reported ∙ sym is) reported

pub returns-clause-bits : goal.returns-clause-bits
returns-clause-bits c =
    made c.args.ttl c.significand.result c.if-ttl-eq0.false (omega arith) c.significand.ensures.value
    ∙ sym (bits_of-some c.args.ttl c.if-ttl-eq0.false)

pub returns-clause-spells : goal.returns-clause-spells
returns-clause-spells c = λ spellable.
    spelled_again c.args.ttl _ (omega arith)
    (made c.args.ttl c.significand.result c.if-ttl-eq0.false (omega arith) c.significand.ensures.value) spellable

pub returns-clause-only : goal.returns-clause-only
returns-clause-only c = λ some bits reported.
    one_spelling bits c.args.ttl some reported
    ∙ sym (made c.args.ttl c.significand.result c.if-ttl-eq0.false (omega arith) c.significand.ensures.value)
