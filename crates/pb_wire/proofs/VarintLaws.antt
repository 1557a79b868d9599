-- A varint is read as the number that it spells, and what is read is a varint.
use Rattle.std.proofs.Common.{◌≡◌, ℕ, suc, ◌%◌, ◌^◌, ◌<◌, ◌≤◌, Bool, true, false, cond, leb, List, [], ◌∷◌, ◌++◌}
use Rattle.std.proofs.Common.{length, take, get_or, Result, Ok, Err, refl, sym, ap, subst, ◌∙◌, inl, inr, arith}
use Rattle.std.proofs.Common.{length-append}
use Rattle.std.proofs.lemmas.Bool.{cases_lt, lt-ltb, le-ltb, lt-leb, leb-false}
use Rattle.std.proofs.lemmas.List.{take_at, length-take-le}
use Rattle.pb_wire.specs.declared.reader.WireWhy.{WireWhy}
use Rattle.pb_wire.specs.Varint.{low_bits, IsLastAlone, IsVarint, high_bytes, varint_at}

-- what is read is what was spelled

suc_high : (x rest : List ℕ) → IsLastAlone x → suc (high_bytes (x ++ rest)) ≡ length x
suc_high [] rest h = absurd h
suc_high (b ∷ []) rest h = rw (lt-ltb b 128 h) refl
suc_high (b ∷ c ∷ x) rest h = rw (le-ltb b 128 h.0) (ap (λ (n : ℕ). suc n) (suc_high (c ∷ x) rest h.1))

abbrev pub read_of : ℕ → ℕ → Result (ℕ × ℕ) WireWhy
read_of v n = Ok (v, n)

pub varint_again : (x rest : List ℕ) (v : ℕ) → IsVarint x v → varint_at (x ++ rest) ≡ Ok (v, length x)
unfolding varint_at
varint_again x rest v h =
    let size = suc_high x rest h.last in
    let few = h.few in
    let not_long : leb 10 (high_bytes (x ++ rest)) ≡ false = lt-leb _ _ (omega arith) in
    let not_short : leb (length (x ++ rest)) (high_bytes (x ++ rest)) ≡ false =
    lt-leb _ _ (omega (arith, length-append x rest)) in
    let front : take (suc (high_bytes (x ++ rest))) (x ++ rest) ≡ x =
    ap (λ (n : ℕ). take n (x ++ rest)) size ∙ take_at x rest (length x) refl in
    let value : low_bits (take (suc (high_bytes (x ++ rest))) (x ++ rest)) % 2 ^ 64 ≡ v =
    ap (λ (y : List ℕ). low_bits y % 2 ^ 64) front ∙ sym h.sum in
    rw (not_long, not_short)
    (ap (λ (n : ℕ). read_of n (suc (high_bytes (x ++ rest)))) value ∙ ap (λ (n : ℕ). read_of v n) size)

-- what is read was spelled

pub cons_alone : (b : ℕ) (x : List ℕ) → 128 ≤ b → IsLastAlone x → IsLastAlone (b ∷ x)
cons_alone b [] high h = absurd h
cons_alone b (c ∷ x) high h = (high, h)

last_alone : (bytes : List ℕ) → high_bytes bytes < length bytes → IsLastAlone (take (suc (high_bytes bytes)) bytes)
last_alone [] h = absurd (omega arith)
last_alone (b ∷ bytes) h =
    elim (cases_lt b 128) [
      | inl low ↦ rw (lt-ltb b 128 low) low
      | inr high ↦
          (let inside : high_bytes bytes < length bytes = omega (arith, rw (le-ltb b 128 high) at h) in
          rw (le-ltb b 128 high) (cons_alone b (take (suc (high_bytes bytes)) bytes) high (last_alone bytes inside)))
    ]

chosen : {A : Type 0} (a b : Bool) (p q : WireWhy) (x y : A) → cond a (Err p) (cond b (Err q) (Ok x)) ≡ Ok y
    → (a ≡ false) × (b ≡ false) × (x ≡ y)
chosen true b p q x y e = absurd cc
chosen false true p q x y e = absurd cc
chosen false false p q x y e = (refl, refl, cc)

pub record Found (bytes : List ℕ) (read : ℕ × ℕ) : Type 0 where
  pub varint : IsVarint (take read.1 bytes) read.0
  pub some : 0 < read.1
  pub within : read.1 ≤ length bytes

pub varint_found : (bytes : List ℕ) (read : ℕ × ℕ) → varint_at bytes ≡ Ok read → Found bytes read
unfolding varint_at
varint_found bytes read e =
    let high : ℕ = high_bytes bytes in
    let parts =
    chosen (leb 10 high) (leb (length bytes) high) _ _ (low_bits (take (suc high) bytes) % 2 ^ 64, suc high) read e in
    let few : high < 10 = leb-false _ _ parts.0 in
    let inside : high < length bytes = leb-false _ _ parts.1 in
    let found : Found bytes (low_bits (take (suc high) bytes) % 2 ^ 64, suc high) = record {
      varint = record {
        last = last_alone bytes inside;
        few = omega (arith, length-take-le (suc high) bytes (omega arith));
        sum = refl;
      };
      some = omega arith;
      within = omega arith;
    } in
    subst (λ (r : ℕ × ℕ). Found bytes r) parts.2 found

-- the varint of one byte

pub one_byte : (bytes : List ℕ) (value : ℕ) → 0 < length bytes → get_or bytes 0 0 < 128 → value ≡ get_or bytes 0 0
    → Ok (value, 1) ≡ varint_at bytes
one_byte [] value some small is = absurd (omega arith)
one_byte (b ∷ bytes) value some small is =
    sym (varint_again (b ∷ []) bytes value (record { last = small; few = omega arith; sum = omega arith }))
