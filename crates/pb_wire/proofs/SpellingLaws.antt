-- What is written is a spelling, and the shortest.
use Rattle.std.proofs.Common.{◌≡◌, ℕ, zero, suc, ◌+◌, ◌*◌, ◌/◌, ◌%◌, ◌^◌, ◌<◌, ◌≤◌, inl, inr, List, [], ◌∷◌, length}
use Rattle.std.proofs.Common.{refl, sym, ap, arith, length-append}
use Rattle.std.proofs.Math.Nat.{pow-succ'}
use Rattle.std.proofs.lemmas.Bool.{cases_lt, lt-ltb, le-ltb}
use Rattle.std.proofs.lemmas.Nat.{from_le_bytes-to_le_bytes_4, from_le_bytes-to_le_bytes_8}
use Rattle.pb_wire.specs.Varint.{low_bits, IsLastAlone, IsVarint, spelled_within, varint}
use Rattle.pb_wire.specs.Spelling.{Content, Varint, Eight, Bytes, Four, tag_of, IsBody, IsSpelling, body_spelling}
use Rattle.pb_wire.specs.Spelling.{field_spelling}
use Rattle.pb_wire.specs.ReadBack.{FieldValue, Fits, IsField, value_spelling}
use Rattle.pb_wire.proofs.VarintLaws.{cons_alone}
use Rattle.pb_wire.proofs.LoopLaws.{low_below}

spelled_alone : (n value : ℕ) → value < 128 ^ suc n → IsLastAlone (spelled_within n value)
unfolding spelled_within
spelled_alone zero value below = rw (pow-succ' 128 0) at below
spelled_alone (suc n) value below =
    let less : value < 128 * 128 ^ suc n = rw (pow-succ' 128 (suc n)) at below in
    elim (cases_lt value 128) [
      | inl small ↦ rw (lt-ltb value 128 small) small
      | inr large ↦
          rw (le-ltb value 128 large)
          (cons_alone (128 + value % 128) (spelled_within n (value / 128)) (omega arith)
          (spelled_alone n (value / 128) (omega arith)))
    ]

spelled_few : (n value : ℕ) → length (spelled_within n value) ≤ suc n
unfolding spelled_within
spelled_few zero value = omega arith
spelled_few (suc n) value =
    elim (cases_lt value 128) [
      | inl small ↦ rw (lt-ltb value 128 small) (omega arith)
      | inr large ↦ (let rest = spelled_few n (value / 128) in rw (le-ltb value 128 large) (omega arith))
    ]

spelled_low : (n value : ℕ) → value < 128 ^ suc n → low_bits (spelled_within n value) ≡ value
unfolding spelled_within
spelled_low zero value below = let small : value < 128 = rw (pow-succ' 128 0) at below in omega arith
spelled_low (suc n) value below =
    let less : value < 128 * 128 ^ suc n = rw (pow-succ' 128 (suc n)) at below in
    elim (cases_lt value 128) [
      | inl small ↦ rw (lt-ltb value 128 small) (omega arith)
      | inr large ↦ (let rest = spelled_low n (value / 128) (omega arith) in rw (le-ltb value 128 large) (omega arith))
    ]

spelled_short : (n k value : ℕ) → value < 128 ^ suc k → length (spelled_within n value) ≤ suc k
unfolding spelled_within
spelled_short zero k value below = omega arith
spelled_short (suc n) zero value below =
    let small : value < 128 = rw (pow-succ' 128 0) at below in
    rw (lt-ltb value 128 small) (omega arith)
spelled_short (suc n) (suc k) value below =
    let less : value < 128 * 128 ^ suc k = rw (pow-succ' 128 (suc k)) at below in
    let rest = spelled_short n k (value / 128) (omega arith) in
    elim (cases_lt value 128) [
      | inl small ↦ rw (lt-ltb value 128 small) (omega arith)
      | inr large ↦ rw (le-ltb value 128 large) (omega arith)
    ]

-- varints

pub varint_is : (value : ℕ) → value < 2 ^ 64 → IsVarint (varint value) value
unfolding varint
varint_is value fits =
    let below : value < 128 ^ 10 = omega arith in
    let low = spelled_low 9 value below in
    record { last = spelled_alone 9 value below; few = spelled_few 9 value; sum = omega arith }

alone_below : (text : List ℕ) (value : ℕ) → IsLastAlone text → value < 128 ^ length text
    → length (varint value) ≤ length text
unfolding varint
alone_below [] value last below = absurd last
alone_below (b ∷ text) value last below = spelled_short 9 (length text) value below

pub varint_shortest : (text : List ℕ) (value : ℕ) → IsVarint text value → length (varint value) ≤ length text
varint_shortest text value is =
    let sum = is.sum in
    let below = low_below text in
    alone_below text value is.last (omega arith)

-- fields

tag_small : (number : ℕ) (content : Content) → number < 2 ^ 29 → tag_of number content < 2 ^ 32
tag_small number (Varint value) small = omega arith
tag_small number (Eight value) small = omega arith
tag_small number (Bytes bytes) small = omega arith
tag_small number (Four value) small = omega arith

body_spelled : (content : Content) → Fits content → IsBody (body_spelling content) content
body_spelled (Varint value) fits = varint_is value fits
body_spelled (Eight value) fits = (refl, sym (from_le_bytes-to_le_bytes_8 value fits))
body_spelled (Bytes bytes) fits = (varint (length bytes), varint_is (length bytes) fits, refl)
body_spelled (Four value) fits = (refl, sym (from_le_bytes-to_le_bytes_4 value fits))

body_shortest : (content : Content) (text : List ℕ) → IsBody text content → length (body_spelling content) ≤ length text
body_shortest (Varint value) text is = varint_shortest text value is
body_shortest (Eight value) text is = let size = is.0 in omega arith
body_shortest (Bytes bytes) text is =
    let size = varint_shortest is.0 (length bytes) is.1 in
    omega (arith, ap (length {A = ℕ}) is.2, length-append is.0 bytes, length-append (varint (length bytes)) bytes)
body_shortest (Four value) text is = let size = is.0 in omega arith

pub spelling_is : (value : FieldValue) → IsField value → IsSpelling (value_spelling value) value.number value.content
unfolding field_spelling
spelling_is value is =
    let small = tag_small value.number value.content is.small in
    record {
      tag = varint (tag_of value.number value.content);
      body = body_spelling value.content;
      whole = refl;
      positive = is.positive;
      small = small;
      tag_is = varint_is _ (omega arith);
      body_is = body_spelled value.content is.fits;
    }

pub spelling_shortest : (value : FieldValue) (text : List ℕ) → IsSpelling text value.number value.content
    → length (value_spelling value) ≤ length text
unfolding field_spelling
spelling_shortest value text is =
    let tag = varint_shortest is.tag _ is.tag_is in
    let body = body_shortest value.content is.body is.body_is in
    omega (
      arith,
      ap (length {A = ℕ}) is.whole,
      length-append is.tag is.body,
      length-append (varint (tag_of value.number value.content)) (body_spelling value.content),
    )
