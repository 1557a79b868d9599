-- The bodies of fields are read as what they spell.
use Rattle.std.proofs.Common.{◌≡◌, ℕ, ◌+◌, ◌*◌, ◌/◌, ◌%◌, ◌^◌, ◌<◌, ◌≤◌, true, false, cond, eqb, leb, ltb, List, ◌++◌}
use Rattle.std.proofs.Common.{length, take, drop, Some, None, ℤ, pos, negsuc, refl, sym, ap, subst, ◌∙◌, append_assoc}
use Rattle.std.proofs.Common.{length-append, arith, inl, inr}
use Rattle.std.specs.Prelude.{FitsSigned}
use Rattle.std.specs.Int.{Width, w32, w64, byte_len, cast_signed, cast_unsigned, from_le_bytes, to_le_bytes}
use Rattle.std.specs.Ordering.{int_eq}
use Rattle.std.specs.Str.{IsUtf8, is_utf8}
use Rattle.std.proofs.Math.Facts.{Fits-of_z, sfits_to_z}
use Rattle.std.proofs.lemmas.Bool.{ltb-false, le-ltb, leb-true, le-leb, eqb-true, eq-eqb}
use Rattle.std.proofs.lemmas.Bool.Decides.{Decides-int_eq, eqb_tells}
use Rattle.std.proofs.lemmas.Int.{of_z-to_z, to_z-of_z}
use Rattle.std.proofs.lemmas.List.{take_at, drop_at, take-append-drop, length-take-le}
use Rattle.std.proofs.lemmas.Nat.{le_bytes_4, le_bytes_8, from_le_bytes-to_le_bytes_4, from_le_bytes-to_le_bytes_8}
use Rattle.std.proofs.lemmas.Str.{is_utf8-from_IsUtf8, IsUtf8-from_is_utf8}
use Rattle.pb_wire.specs.Varint.{varint}
use Rattle.riemann_msg.specs.Spelling.{zigzag}
use Rattle.riemann_msg.specs.Ttl.{IsSpellableTtl, bits_of, seconds_of}
use Rattle.riemann_msg.specs.Value.{second_of, unzigzag}
use Rattle.riemann_msg.proofs.TtlBits.{bits_of_small, bits_of_spells, seconds_from_ttl, ttl_from_seconds}
use Rattle.packed_event.specs.Reading.{◌>>=◌, bytes_part, int64_part, micros_part, number_part, sint64_part, text_part}
use Rattle.packed_event.specs.Reading.{ttl_part, varint_part}
use Rattle.packed_event.proofs.Parts.{IsBytes, IsBytes-take, IsPart, bind_some, passed, not_refused, some_is, read_as}
use Rattle.packed_event.proofs.Varints.{varint_is_part}

-- ---- bytes and texts

abbrev pub counted_text : List ℕ → List ℕ
counted_text bytes = varint (length bytes) ++ bytes

cut : (n : ℕ) (rest : List ℕ) → n ≤ length rest
    → varint n ++ rest ≡ counted_text (take n rest) ++ drop n rest
cut n rest within =
    rw (length-take-le n rest within)
    (ap (λ (t : List ℕ). varint n ++ t) (sym (take-append-drop n rest))
    ∙ sym (append_assoc (varint n) (take n rest) (drop n rest)))

pub bytes_sound : (bytes : List ℕ) (read : List ℕ × List ℕ) → IsBytes bytes → bytes_part bytes ≡ Some read
    → bytes ≡ counted_text read.0 ++ read.1
unfolding bytes_part
bytes_sound bytes read fits e =
    let b = bind_some (varint_part bytes) (λ (size : ℕ × List ℕ). cond (leb size.0 (length size.1))
    (Some (take size.0 size.1, drop size.0 size.1)) None) read e in
    let v = varint_is_part.sound bytes b.0 fits b.1 in
    let p = passed (leb b.0.0 (length b.0.1)) (Some (take b.0.0 b.0.1, drop b.0.0 b.0.1)) read b.2 in
    subst (λ (r : List ℕ × List ℕ). bytes ≡ counted_text r.0 ++ r.1)
    (some_is (take b.0.0 b.0.1, drop b.0.0 b.0.1) read p.1)
    (v.0 ∙ cut b.0.0 b.0.1 (leb-true b.0.0 (length b.0.1) p.0))

pub bytes_whole : (value rest : List ℕ) → length (counted_text value ++ rest) < 2 ^ 64
    → bytes_part (counted_text value ++ rest) ≡ Some (value, rest)
unfolding bytes_part
bytes_whole value rest short =
    let n : ℕ = length value in
    let moved : counted_text value ++ rest ≡ varint n ++ (value ++ rest) = append_assoc (varint n) value rest in
    let small : n < 2 ^ 64 =
    omega (arith, short, length-append (counted_text value) rest, length-append (varint n) value) in
    let long : length (varint n ++ (value ++ rest)) < 2 ^ 64 =
    omega (arith, short, ap length moved) in
    let within : leb n (length (value ++ rest)) ≡ true = le-leb n (length (value ++ rest))
    (omega (arith, length-append value rest)) in
    ap bytes_part moved
    ∙ rw (
      varint_is_part.whole n (value ++ rest) small long,
      within,
      take_at value rest n refl,
      drop_at value rest n
          refl,
    ) refl

text_sound : (bytes : List ℕ) (read : List ℕ × List ℕ) → IsBytes bytes → text_part bytes ≡ Some read
    → (bytes ≡ counted_text read.0 ++ read.1) × IsUtf8 read.0
unfolding text_part
text_sound bytes read fits e =
    let b = bind_some (bytes_part bytes) (λ (text : List ℕ × List ℕ). cond (is_utf8 text.0) (Some text) None) read e in
    let p = passed (is_utf8 b.0.0) (Some b.0) read b.2 in
    subst (λ (r : List ℕ × List ℕ). (bytes ≡ counted_text r.0 ++ r.1) × IsUtf8 r.0) (some_is b.0 read p.1)
    (bytes_sound bytes b.0 fits b.1, IsUtf8-from_is_utf8 b.0.0 p.0)

text_whole : (value rest : List ℕ) → IsUtf8 value → length (counted_text value ++ rest) < 2 ^ 64
    → text_part (counted_text value ++ rest) ≡ Some (value, rest)
unfolding text_part
text_whole value rest utf8 short = rw (bytes_whole value rest short, is_utf8-from_IsUtf8 value utf8) refl

pub text_is_part : IsPart text_part counted_text IsUtf8
text_is_part = record { sound = text_sound; whole = text_whole }

-- ---- signed numbers

abbrev pub int64_text : ℤ → List ℕ
int64_text number = varint (cast_unsigned w64 number)

abbrev pub sint64_text : ℤ → List ℕ
sint64_text number = varint (zigzag number)

int64_sound : (bytes : List ℕ) (read : ℤ × List ℕ) → IsBytes bytes → int64_part bytes ≡ Some read
    → (bytes ≡ int64_text read.0 ++ read.1) × FitsSigned w64 read.0
unfolding int64_part
int64_sound bytes read fits e =
    let b = bind_some (varint_part bytes) (λ (value : ℕ × List ℕ). read_as (cast_signed w64 value.0) value.1) read e in
    let v = varint_is_part.sound bytes b.0 fits b.1 in
    let back : cast_unsigned w64 (cast_signed w64 b.0.0) ≡ b.0.0 = of_z-to_z w64 b.0.0 v.1 in
    subst (λ (r : ℤ × List ℕ). (bytes ≡ int64_text r.0 ++ r.1) × FitsSigned w64 r.0)
    (some_is (cast_signed w64 b.0.0, b.0.1) read b.2)
    (v.0 ∙ ap (λ (n : ℕ). varint n ++ b.0.1) (sym back), sfits_to_z {w = w64} {n = b.0.0} (record { fits = v.1 }))

int64_whole : (value : ℤ) (rest : List ℕ) → FitsSigned w64 value → length (int64_text value ++ rest) < 2 ^ 64
    → int64_part (int64_text value ++ rest) ≡ Some (value, rest)
unfolding int64_part
int64_whole value rest good short =
    rw (varint_is_part.whole (cast_unsigned w64 value) rest (Fits-of_z {w = w64} {z = value} good).fits short)
    (ap (λ (z : ℤ). read_as z rest) (to_z-of_z w64 value good))

pub int64_is_part : IsPart int64_part int64_text (FitsSigned w64)
int64_is_part = record { sound = int64_sound; whole = int64_whole }

zigzag-unzigzag : (n : ℕ) → zigzag (unzigzag n) ≡ n
zigzag-unzigzag n =
    elim (eqb_tells (n % 2) 0) [
      | inl even ↦ rw even.0 (omega (arith, even.1))
      | inr odd ↦ rw odd.0 (omega (arith, odd.1))
    ]

unzigzag-fits : (n : ℕ) → n < 2 ^ 64 → FitsSigned w64 (unzigzag n)
unzigzag-fits n small =
    elim (eqb_tells (n % 2) 0) [
      | inl even ↦ rw even.0 (record { sfits = omega arith })
      | inr odd ↦ rw odd.0 (record { sfits = omega arith })
    ]

unzigzag-zigzag : (value : ℤ) → unzigzag (zigzag value) ≡ value
unzigzag-zigzag (pos n) =
    let even : 2 * n % 2 ≡ 0 = omega arith in
    let half : 2 * n / 2 ≡ n = omega arith in
    rw (even, half) refl
unzigzag-zigzag (negsuc n) =
    let odd : (2 * n + 1) % 2 ≡ 1 = omega arith in
    let half : (2 * n + 1) / 2 ≡ n = omega arith in
    rw (odd, half) refl

zigzag_small : (z : ℤ) → FitsSigned w64 z → zigzag z < 2 ^ 64
zigzag_small (pos n) fits = omega (arith, fits.sfits)
zigzag_small (negsuc n) fits = omega (arith, fits.sfits)

sint64_sound : (bytes : List ℕ) (read : ℤ × List ℕ) → IsBytes bytes → sint64_part bytes ≡ Some read
    → (bytes ≡ sint64_text read.0 ++ read.1) × FitsSigned w64 read.0
unfolding sint64_part
sint64_sound bytes read fits e =
    let b = bind_some (varint_part bytes) (λ (value : ℕ × List ℕ). read_as (unzigzag value.0) value.1) read e in
    let v = varint_is_part.sound bytes b.0 fits b.1 in
    subst (λ (r : ℤ × List ℕ). (bytes ≡ sint64_text r.0 ++ r.1) × FitsSigned w64 r.0)
    (some_is (unzigzag b.0.0, b.0.1) read b.2)
    (v.0 ∙ ap (λ (n : ℕ). varint n ++ b.0.1) (sym (zigzag-unzigzag b.0.0)), unzigzag-fits b.0.0 v.1)

sint64_whole : (value : ℤ) (rest : List ℕ) → FitsSigned w64 value → length (sint64_text value ++ rest) < 2 ^ 64
    → sint64_part (sint64_text value ++ rest) ≡ Some (value, rest)
unfolding sint64_part
sint64_whole value rest good short =
    rw (varint_is_part.whole (zigzag value) rest (zigzag_small value good) short)
    (ap (λ (z : ℤ). read_as z rest) (unzigzag-zigzag value))

pub sint64_is_part : IsPart sint64_part sint64_text (FitsSigned w64)
sint64_is_part = record { sound = sint64_sound; whole = sint64_whole }

abbrev pub IsIn : ℤ → ℤ → Type 0
IsIn time micros = FitsSigned w64 micros × (time ≡ second_of micros)

micros_sound : (time : ℤ) (bytes : List ℕ) (read : ℤ × List ℕ) → IsBytes bytes → micros_part time bytes ≡ Some read
    → (bytes ≡ int64_text read.0 ++ read.1) × IsIn time read.0
unfolding micros_part
micros_sound time bytes read fits e =
    let b = bind_some (int64_part bytes) (λ (micros : ℤ × List ℕ). cond (int_eq (second_of micros.0) time)
    (Some micros) None) read e in
    let p = passed (int_eq (second_of b.0.0) time) (Some b.0) read b.2 in
    let v = int64_sound bytes b.0 fits b.1 in
    subst (λ (r : ℤ × List ℕ). (bytes ≡ int64_text r.0 ++ r.1) × IsIn time r.0) (some_is b.0 read p.1)
    (v.0, (v.1, sym ((Decides-int_eq (second_of b.0.0) time).0 p.0)))

micros_whole : (time value : ℤ) (rest : List ℕ) → IsIn time value → length (int64_text value ++ rest) < 2 ^ 64
    → micros_part time (int64_text value ++ rest) ≡ Some (value, rest)
unfolding micros_part
micros_whole time value rest good short =
    rw (int64_whole value rest good.0 short, (Decides-int_eq (second_of value) time).1 (sym good.1)) refl

pub micros_is_part : (time : ℤ) → IsPart (micros_part time) int64_text (IsIn time)
micros_is_part time = record { sound = micros_sound time; whole = micros_whole time }

-- ---- numbers of a fixed length

pub record IsWide (w : Width) (limit : ℕ) : Type 0 where
  pub len : (n : ℕ) → length (to_le_bytes w n) ≡ byte_len w
  pub back : (bytes : List ℕ) → length bytes ≡ byte_len w → IsBytes bytes → to_le_bytes w (from_le_bytes w bytes)
      ≡ bytes
  pub again : (n : ℕ) → n < limit → from_le_bytes w (to_le_bytes w n) ≡ n
  pub below : (bytes : List ℕ) → IsBytes bytes → from_le_bytes w bytes < limit

pub wide32 : IsWide w32 (2 ^ 32)
wide32 = record {
  len = λ n. refl;
  back = λ bytes len fits. le_bytes_4 bytes _ len fits refl;
  again = λ n lt. from_le_bytes-to_le_bytes_4 n lt;
  below = λ bytes fits. omega (arith, fits 0, fits 1, fits 2, fits 3);
}

pub wide64 : IsWide w64 (2 ^ 64)
wide64 = record {
  len = λ n. refl;
  back = λ bytes len fits. le_bytes_8 bytes _ len fits refl;
  again = λ n lt. from_le_bytes-to_le_bytes_8 n lt;
  below = λ bytes fits. omega (arith, fits 0, fits 1, fits 2, fits 3, fits 4, fits 5, fits 6, fits 7);
}

number_sound : (w : Width) (limit : ℕ) → IsWide w limit → (bytes : List ℕ) (read : ℕ × List ℕ) → IsBytes bytes
    → number_part w bytes ≡ Some read → (bytes ≡ to_le_bytes w read.0 ++ read.1) × (read.0 < limit)
number_sound w limit wide bytes read fits e =
    let k : ℕ = byte_len w in
    let front : List ℕ = take k bytes in
    let p = not_refused (ltb (length bytes) k) (Some (from_le_bytes w front, drop k bytes)) read e in
    let enough : k ≤ length bytes = ltb-false (length bytes) k p.0 in
    let byte : IsBytes front = IsBytes-take k bytes fits in
    let back : to_le_bytes w (from_le_bytes w front) ≡ front = wide.back front (length-take-le k bytes enough) byte in
    subst (λ (r : ℕ × List ℕ). (bytes ≡ to_le_bytes w r.0 ++ r.1) × (r.0 < limit))
    (some_is (from_le_bytes w front, drop k bytes) read p.1)
    (sym (take-append-drop k bytes) ∙ ap (λ (t : List ℕ). t ++ drop k bytes) (sym back), wide.below front byte)

number_whole : (w : Width) (limit : ℕ) → IsWide w limit → (value : ℕ) (rest : List ℕ) → value < limit
    → number_part w (to_le_bytes w value ++ rest) ≡ Some (value, rest)
number_whole w limit wide value rest good =
    let k : ℕ = byte_len w in
    let size : length (to_le_bytes w value) ≡ k = wide.len value in
    let enough : ltb (length (to_le_bytes w value ++ rest)) k ≡ false =
    le-ltb (length (to_le_bytes w value ++ rest)) k (omega (arith, size, length-append (to_le_bytes w value) rest)) in
    rw (enough, take_at (to_le_bytes w value) rest k size, drop_at (to_le_bytes w value) rest k size)
    (ap (λ (n : ℕ). read_as n rest) (wide.again value good))

pub number_is_part : (w : Width) (limit : ℕ) → IsWide w limit → IsPart (number_part w) (to_le_bytes w) (λ n. n < limit)
number_is_part w limit wide = record {
  sound = number_sound w limit wide;
  whole = λ value rest good short. number_whole w limit wide value rest good;
}

abbrev pub ttl_text : ℕ → List ℕ
ttl_text ttl = to_le_bytes w32 (bits_of ttl)

ttl_sound : (bytes : List ℕ) (read : ℕ × List ℕ) → IsBytes bytes → ttl_part bytes ≡ Some read
    → (bytes ≡ ttl_text read.0 ++ read.1) × IsSpellableTtl read.0
unfolding ttl_part
ttl_sound bytes read fits e =
    let b = bind_some (number_part w32 bytes) (λ (bits : ℕ × List ℕ). seconds_of bits.0
    >>= (λ (ttl : ℕ). cond (eqb (bits_of ttl) bits.0) (read_as ttl bits.1) None)) read e in
    let c = bind_some (seconds_of b.0.0) (λ (ttl : ℕ). cond (eqb (bits_of ttl) b.0.0) (read_as ttl b.0.1) None) read
    b.2 in
    let p = passed (eqb (bits_of c.0) b.0.0) (read_as c.0 b.0.1) read c.2 in
    let v = number_sound w32 (2 ^ 32) wide32 bytes b.0 fits b.1 in
    let same : bits_of c.0 ≡ b.0.0 = eqb-true (bits_of c.0) b.0.0 p.0 in
    subst (λ (r : ℕ × List ℕ). (bytes ≡ ttl_text r.0 ++ r.1) × IsSpellableTtl r.0) (some_is (c.0, b.0.1) read p.1)
    (v.0 ∙ ap (λ (n : ℕ). to_le_bytes w32 n ++ b.0.1) (sym same), (b.0.0, ttl_from_seconds b.0.0 c.0 c.1))

ttl_whole : (value : ℕ) (rest : List ℕ) → IsSpellableTtl value → length (ttl_text value ++ rest) < 2 ^ 64
    → ttl_part (ttl_text value ++ rest) ≡ Some (value, rest)
unfolding ttl_part
ttl_whole value rest good short =
    rw (
      number_whole w32 (2 ^ 32) wide32 (bits_of value) rest (bits_of_small value good),
      seconds_from_ttl (bits_of value) value (bits_of_spells value good),
      eq-eqb (bits_of value) (bits_of value) refl,
    )
    refl

pub ttl_is_part : IsPart ttl_part ttl_text IsSpellableTtl
ttl_is_part = record { sound = ttl_sound; whole = ttl_whole }
