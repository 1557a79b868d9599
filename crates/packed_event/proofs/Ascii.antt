-- Bytes are ASCII if the eight that they begin with are, and the eight that they end with.
use Rattle.std.proofs.Common.{◌≡◌, ℕ, ◌+◌, ◌-◌, ◌<◌, ◌≤◌, Bool, true, false, List, length, get_or, take, drop}
use Rattle.std.proofs.Common.{ap, subst, arith, bit_and, inl, inr, zero, suc, ◌*◌, ◌^◌, ◌&&◌, refl, sym, ◌∙◌}
use Rattle.std.proofs.lemmas.Bool.{cases_lt, false≢true}
use Rattle.std.proofs.lemmas.List.{length-take, get_or-drop, get_or-take, get_or_past}
use Rattle.std.proofs.lemmas.Nat.{and_block}
use Rattle.std.specs.Int.{w64, from_le_bytes}
use Rattle.std.specs.Bool.{IsTrue}
use Rattle.std.specs.Str.{IsAscii}

pub both : (a b : Bool) → IsTrue (a && b) → IsTrue a × IsTrue b
both true b passed = (refl, passed)
both false b passed = absurd (false≢true passed)

-- the first `len` bytes, where a byte is below 128 if its place is below `len`
below_all : (bytes : List ℕ) (len : ℕ) → ((i : ℕ) → i < len → get_or bytes i 0 < 128) → IsAscii (take len bytes)
below_all bytes len each i =
    elim (cases_lt i len) [
      | inl lt ↦ rw (get_or-take len bytes i 0 lt) (each i lt)
      | inr le ↦ rw (get_or_past (take len bytes) i 0 (omega (arith, length-take len bytes))) (omega arith)
    ]

first_eight : (bytes : List ℕ) → IsAscii (take 8 bytes) → (i : ℕ) → i < 8 → get_or bytes i 0 < 128
first_eight bytes ascii i lt = rw (get_or-take 8 bytes i 0 lt) at (ascii i)

pub from_first : (bytes eight : List ℕ) (len : ℕ) → eight ≡ take 8 bytes → len ≤ 8 → IsAscii eight
    → IsAscii (take len bytes)
from_first bytes eight len is few ascii =
    let begins : IsAscii (take 8 bytes) = subst (λ (t : List ℕ). IsAscii t) is ascii in
    below_all bytes len (λ i lt. first_eight bytes begins i (omega (arith, lt, few)))

last_eight : (text : List ℕ) (start i : ℕ) → IsAscii (drop start text) → start ≤ i → get_or text i 0 < 128
last_eight text start i ascii le =
    let at : start + (i - start) ≡ i = omega (arith, le) in
    subst (λ (n : ℕ). get_or text n 0 < 128) at (rw (get_or-drop start text (i - start) 0) at (ascii (i - start)))

pub from_both : (text first last : List ℕ) → first ≡ take 8 text → last ≡ drop (length text - 8) text
    → length text ≤ 16 → IsAscii first → IsAscii last → IsAscii text
from_both text first last begins ends few ascii ascii' i =
    elim (cases_lt i 8) [
      | inl lt ↦ first_eight text (subst (λ (t : List ℕ). IsAscii t) begins ascii) i lt
      | inr le ↦
          last_eight text (length text - 8) i (subst (λ (t : List ℕ). IsAscii t) ends ascii') (omega (arith, le, few))
    ]

-- ---- eight bytes as one number

-- the number whose digits in base 256 are n values of f, from f k on, the least first
abbrev number : (ℕ → ℕ) → ℕ → ℕ → ℕ
number f k zero = 0
number f k (suc n) = f k + 256 * number f (suc k) n

-- the high bits of n bytes
abbrev mask : ℕ → ℕ
mask zero = 0
mask (suc n) = 128 + 256 * mask n

low_byte : (byte : ℕ) → byte < 256 → bit_and byte 128 ≡ 0 → byte < 128
low_byte byte small none =
    elim (cases_lt byte 128) [
      | inl lt ↦ lt
      | inr le ↦
          (let split : byte ≡ 1 * 2 ^ 7 + (byte - 128) = omega (arith, le) in
          let high : bit_and (1 * 2 ^ 7 + (byte - 128)) (1 * 2 ^ 7 + 0) ≡ bit_and 1 1 * 2 ^ 7 + bit_and (byte - 128) 0 =
          and_block 7 1 1 (byte - 128) 0 (omega (arith, small, le)) (omega arith) in
          let whole : bit_and byte 128 ≡ bit_and (1 * 2 ^ 7 + (byte - 128)) 128 =
          ap (λ (n : ℕ). bit_and n 128) split in
          absurd (omega (arith, none, whole, high)))
    ]

each_low : (f : ℕ → ℕ) → ((i : ℕ) → f i < 256) → (n k : ℕ) → bit_and (number f k n) (mask n) ≡ 0
    → (i : ℕ) → i < n → f (k + i) < 128
each_low f small zero k none i lt = absurd (omega (arith, lt))
each_low f small (suc n) k none i lt = at (λ j less. each_low f small n (suc k) others j less) i lt
  where
    rest : ℕ
    rest = number f (suc k) n

    split : bit_and (f k + 256 * rest) (128 + 256 * mask n) ≡ bit_and rest (mask n) * 2 ^ 8 + bit_and (f k) 128
    split =
        let left : f k + 256 * rest ≡ rest * 2 ^ 8 + f k = omega arith in
        let right : 128 + 256 * mask n ≡ mask n * 2 ^ 8 + 128 = omega arith in
        ap (λ (w : ℕ). bit_and w (128 + 256 * mask n)) left ∙ ap (λ (w : ℕ). bit_and (rest * 2 ^ 8 + f k) w) right
        ∙ and_block 8 rest (mask n) (f k) 128 (omega (arith, small k)) (omega arith)

    first : bit_and (f k) 128 ≡ 0
    first = omega (arith, split, none)

    others : bit_and rest (mask n) ≡ 0
    others = omega (arith, split, none)

    at : ((j : ℕ) → j < n → f (suc k + j) < 128) → (i : ℕ) → i < suc n → f (k + i) < 128
    at later zero lt = subst (λ (j : ℕ). f j < 128) (omega arith) (low_byte (f k) (small k) first)
    at later (suc i) lt = subst (λ (j : ℕ). f j < 128) (omega arith) (later i (omega (arith, lt)))

pub from_word : (bytes : List ℕ) → ((i : ℕ) → get_or bytes i 0 < 256) → length bytes ≡ 8
    → bit_and (from_le_bytes w64 bytes) 0x8080_8080_8080_8080 ≡ 0 → IsAscii bytes
from_word bytes small long none i =
    elim (cases_lt i 8) [
      | inl lt ↦
          subst (λ (j : ℕ). at j < 128) (omega arith)
          (each_low at small 8 0 (ap (λ (w : ℕ). bit_and w 0x8080_8080_8080_8080) (sym word) ∙ none) i lt)
      | inr le ↦ rw (get_or_past bytes i 0 (omega (arith, long, le))) (omega arith)
    ]
  where
    at : ℕ → ℕ
    at i = get_or bytes i 0

    word : from_le_bytes w64 bytes ≡ number at 0 8
    word = omega arith
