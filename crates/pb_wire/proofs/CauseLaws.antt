-- A field is refused for the cause that the bytes have, and for no other.
use Rattle.std.proofs.Common.{◌≡◌, ◌≢◌, ℕ, zero, suc, ◌+◌, ◌-◌, ◌/◌, ◌%◌, ◌^◌, ◌<◌, ◌≤◌, Bool, true, false, cond, eqb}
use Rattle.std.proofs.Common.{ltb, leb, ◌&&◌, ◌⊎◌, inl, inr, List, [], ◌∷◌, ◌++◌, length, take, drop, Result, Ok, Err}
use Rattle.std.proofs.Common.{refl, sym, ap, subst, ◌∙◌, arith, length-append, length-drop}
use Rattle.std.proofs.lemmas.Bool.{cases_lt, lt-ltb, le-ltb, lt-leb, le-leb, ltb-true, leb-true, leb-false, eqb-true}
use Rattle.std.proofs.lemmas.Bool.{eq-eqb, and_parts}
use Rattle.std.proofs.lemmas.List.{drop_at, drop-drop, take-append-drop}
use Rattle.std.specs.List.{AllByRecursion, slice_range}
use Rattle.std.specs.Int.{w32, w64, from_le_bytes}
use Rattle.pb_wire.specs.declared.reader.Body.{Body}
use Rattle.pb_wire.specs.declared.reader.Body.TheVariants.{Varint as body_varint, Eight as body_eight}
use Rattle.pb_wire.specs.declared.reader.Body.TheVariants.{Bytes as body_bytes, Four as body_four}
use Rattle.pb_wire.specs.declared.reader.WireWhy.{WireWhy}
use Rattle.pb_wire.specs.declared.reader.WireWhy.TheVariants.{Short, Varint, Tag, Wire}
use Rattle.pb_wire.specs.Varint.{low_bits, high_bytes, varint_at}
use Rattle.pb_wire.specs.Fields.{◌>>=◌, varint_from, tag_from, bytes_from, varint_body, eight_body, bytes_body}
use Rattle.pb_wire.specs.Fields.{four_body, body_from, field_from}
use Rattle.pb_wire.specs.Spelling.{content_in}
use Rattle.pb_wire.specs.Cause.{IsHigh, EndsInVarint, IsLongVarint, BeginsWith, IsTag, IsTagCause, HasVarint}
use Rattle.pb_wire.specs.Cause.{EndsInBody, IsBodyCause, IsCause, BeginsWithField}
use Rattle.pb_wire.proofs.VarintLaws.{varint_again}
use Rattle.pb_wire.proofs.Places.{At, at_between}
use Rattle.pb_wire.proofs.FieldLaws.{cases_read, bind_ok, guard_ok, ok_wire, varint_from_found, field_again}
use Rattle.pb_wire.proofs.FieldLaws.{field_found}

abbrev refusal : (A : Type 0) → WireWhy → Result A WireWhy
refusal A why = Err why

same_refusal : {A : Type 0} (p why : WireWhy) → refusal A p ≡ refusal A why → p ≡ why
same_refusal p why e = cc

bind_err : {A B : Type 0} (r : Result A WireWhy) (f : A → Result B WireWhy) (why : WireWhy) → (r >>= f) ≡ Err why
    → (r ≡ Err why) ⊎ ((x : A) × (r ≡ Ok x) × (f x ≡ Err why))
bind_err (Ok x) f why e = inr (x, refl, e)
bind_err {A} {B} (Err p) f why e = inl (ap (refusal A) (same_refusal {A = B} p why e))

guard_err : {A : Type 0} (b : Bool) (x : A) (p why : WireWhy) → cond b (Ok x) (Err p) ≡ Err why
    → (b ≡ false) × (p ≡ why)
guard_err true x p why e = absurd cc
guard_err {A} false x p why e = (refl, same_refusal {A = A} p why e)

not_true : (b : Bool) → (b ≡ true → ⊥) → b ≡ false
not_true true h = absurd (h refl)
not_true false h = refl

-- ---- varints

high_all : (bytes : List ℕ) → AllByRecursion IsHigh bytes → high_bytes bytes ≡ length bytes
high_all [] h = refl
high_all (b ∷ bytes) h = rw (le-ltb b 128 h.0) (ap (λ (n : ℕ). suc n) (high_all bytes h.1))

high_least : (n : ℕ) (bytes : List ℕ) → n ≤ length bytes → AllByRecursion IsHigh (take n bytes) → n ≤ high_bytes bytes
high_least zero bytes within h = omega arith
high_least (suc n) [] within h = absurd (omega arith)
high_least (suc n) (b ∷ bytes) within h =
    let more : n ≤ high_bytes bytes = high_least n bytes (omega arith) h.1 in
    rw (le-ltb b 128 h.0) (omega arith)

high_prefix : (n : ℕ) (bytes : List ℕ) → n ≤ high_bytes bytes
    → (n ≤ length bytes) × AllByRecursion IsHigh (take n bytes)
high_prefix zero bytes h = (omega arith, tt)
high_prefix (suc n) [] h = absurd (omega arith)
high_prefix (suc n) (b ∷ bytes) h =
    elim (cases_lt b 128) [
      | inl low ↦ absurd (omega (arith, rw (lt-ltb b 128 low) at h))
      | inr high ↦
          (let more = high_prefix n bytes (omega (arith, rw (le-ltb b 128 high) at h)) in
          let within : n ≤ length bytes = more.0 in
          (omega arith, (high, more.1)))
    ]

high_whole : (bytes : List ℕ) → length bytes ≤ high_bytes bytes → AllByRecursion IsHigh bytes
high_whole [] h = tt
high_whole (b ∷ bytes) h =
    elim (cases_lt b 128) [
      | inl low ↦ absurd (omega (arith, rw (lt-ltb b 128 low) at h))
      | inr high ↦ (high, high_whole bytes (omega (arith, rw (le-ltb b 128 high) at h)))
    ]

varint_short : (bytes : List ℕ) → EndsInVarint bytes → varint_at bytes ≡ Err Short
unfolding varint_at
varint_short bytes h =
    let high = high_all bytes h.high in
    let few = h.few in
    let not_long : leb 10 (high_bytes bytes) ≡ false = lt-leb _ _ (omega arith) in
    let short : leb (length bytes) (high_bytes bytes) ≡ true = le-leb _ _ (omega arith) in
    rw (not_long, short) refl

varint_long : (bytes : List ℕ) → IsLongVarint bytes → varint_at bytes ≡ Err Varint
unfolding varint_at
varint_long bytes h =
    let long : leb 10 (high_bytes bytes) ≡ true = le-leb _ _ (high_least 10 bytes h.ten h.high) in
    rw long refl

varint_begins : (bytes : List ℕ) (value : ℕ) (rest : List ℕ) (begins : BeginsWith bytes value rest)
    → varint_at bytes ≡ Ok (value, length begins.text)
varint_begins bytes value rest begins = ap varint_at begins.whole ∙ varint_again begins.text rest value begins.varint

-- why a varint is refused
-- why a varint is refused
abbrev IsVarintCause : List ℕ → WireWhy → Type 0
IsVarintCause bytes why = ((why ≡ Short) × EndsInVarint bytes) ⊎ ((why ≡ Varint) × IsLongVarint bytes)

chosen_refusal : {A : Type 0} (a b : Bool) (p q why : WireWhy) (x : A)
    → cond a (Err p) (cond b (Err q) (Ok x)) ≡ Err why
    → ((a ≡ true) × (why ≡ p)) ⊎ ((a ≡ false) × (b ≡ true) × (why ≡ q))
chosen_refusal {A} true b p q why x e = inl (refl, sym (same_refusal {A = A} p why e))
chosen_refusal {A} false true p q why x e = inr (refl, refl, sym (same_refusal {A = A} q why e))
chosen_refusal false false p q why x e = absurd cc

varint_refused : (bytes : List ℕ) (why : WireWhy) → varint_at bytes ≡ Err why → IsVarintCause bytes why
unfolding varint_at
varint_refused bytes why e =
    let high : ℕ = high_bytes bytes in
    let cases =
    chosen_refusal (leb 10 high) (leb (length bytes) high) Varint Short why
    (low_bits (take (suc high) bytes) % 2 ^ 64, suc high) e in
    elim cases [
      | inl long ↦
          (let parts = high_prefix 10 bytes (leb-true _ _ long.0) in
          inr (long.1, record { ten = parts.0; high = parts.1 }))
      | inr short ↦
          (let few : high < 10 = leb-false _ _ short.0 in
          let within : length bytes ≤ high = leb-true _ _ short.1 in
          inl (short.2, record { few = omega arith; high = high_whole bytes within }))
    ]

from_refused : (bytes : List ℕ) (place : ℕ) (why : WireWhy) → varint_from bytes place ≡ Err why
    → IsVarintCause (drop place bytes) why
unfolding varint_from
from_refused bytes place why e =
    elim (bind_err (varint_at (drop place bytes)) (λ read. Ok (read.0, place + read.1)) why e) [
      | inl refused ↦ varint_refused (drop place bytes) why refused
      | inr more ↦ (let no = more.2 in absurd cc)
    ]

-- the varint at a place, and then what follows it
begins_at : (bytes : List ℕ) (place : ℕ) (read : ℕ × ℕ) → varint_from bytes place ≡ Ok read
    → BeginsWith (drop place bytes) read.0 (drop read.1 bytes)
begins_at bytes place read e =
    let found = varint_from_found bytes place read e in
    let rises = found.rises in
    let size : place + (read.1 - place) ≡ read.1 = omega arith in
    let rest : drop (read.1 - place) (drop place bytes) ≡ drop read.1 bytes =
    drop-drop (read.1 - place) place bytes ∙ ap (λ (n : ℕ). drop n bytes) size in
    record {
      text = slice_range bytes place read.1;
      whole =
          sym (take-append-drop (read.1 - place) (drop place bytes))
          ∙ ap (λ (more : List ℕ). slice_range bytes place read.1 ++ more) rest;
      varint = found.varint;
    }

-- ---- tags

tag_test : (tag : ℕ) → IsTag tag → (ltb tag (2 ^ 32) && ltb 0 (tag / 8)) ≡ true
tag_test tag is =
    let small : ltb tag (2 ^ 32) ≡ true = lt-ltb _ _ is.small in
    let positive : ltb 0 (tag / 8) ≡ true = lt-ltb _ _ is.positive in
    rw (small, positive) refl

test_tag : (tag : ℕ) → (ltb tag (2 ^ 32) && ltb 0 (tag / 8)) ≡ true → IsTag tag
test_tag tag e = let parts = and_parts _ _ e in record { small = ltb-true _ _ parts.0; positive = ltb-true _ _ parts.1 }

tag_read : (bytes : List ℕ) (place tag : ℕ) (rest : List ℕ) (begins : BeginsWith (drop place bytes) tag rest)
    → IsTag tag → tag_from bytes place ≡ Ok (tag, place + length begins.text)
unfolding tag_from varint_from
tag_read bytes place tag rest begins is = rw (varint_begins (drop place bytes) tag rest begins, tag_test tag is) refl

pub tag_again : (bytes : List ℕ) (place : ℕ) (why : WireWhy) → IsTagCause (drop place bytes) why
    → tag_from bytes place ≡ Err why
unfolding tag_from varint_from
tag_again bytes place Short h = rw (varint_short (drop place bytes) h) refl
tag_again bytes place Varint h = rw (varint_long (drop place bytes) h) refl
tag_again bytes place Tag h =
    let tag : ℕ = h.0 in
    let bad : (ltb tag (2 ^ 32) && ltb 0 (tag / 8)) ≡ false = not_true _ (λ e. h.3 (test_tag tag e)) in
    rw (varint_begins (drop place bytes) tag h.1 h.2, bad) refl
tag_again bytes place Wire h = absurd h

tag_found : (bytes : List ℕ) (place : ℕ) (read : ℕ × ℕ) → tag_from bytes place ≡ Ok read
    → (varint_from bytes place ≡ Ok read) × IsTag read.0
unfolding tag_from
tag_found bytes place read e =
    let first =
    bind_ok (varint_from bytes place) (λ t. cond (ltb t.0 (2 ^ 32) && ltb 0 (t.0 / 8)) (Ok t) (Err Tag)) read e in
    let guard = guard_ok (ltb first.0.0 (2 ^ 32) && ltb 0 (first.0.0 / 8)) first.0 read Tag first.2 in (
      first.1 ∙ ap (λ (r : ℕ × ℕ). ok_wire r) guard.1,
      subst (λ (r : ℕ × ℕ). IsTag r.0) guard.1 (test_tag first.0.0 guard.0),
    )

pub tag_cause : (bytes : List ℕ) (place : ℕ) (why : WireWhy) → tag_from bytes place ≡ Err why
    → IsTagCause (drop place bytes) why
unfolding tag_from
tag_cause bytes place why e =
    elim (bind_err (varint_from bytes place) (λ t. cond (ltb t.0 (2 ^ 32) && ltb 0 (t.0 / 8)) (Ok t) (Err Tag)) why e) [
      | inl refused ↦
          (elim (from_refused bytes place why refused) [
            | inl short ↦ subst (λ (w : WireWhy). IsTagCause (drop place bytes) w) (sym short.0) short.1
            | inr long ↦ subst (λ (w : WireWhy). IsTagCause (drop place bytes) w) (sym long.0) long.1
          ])
      | inr more ↦
          (let read : ℕ × ℕ = more.0 in
          let guard = guard_err (ltb read.0 (2 ^ 32) && ltb 0 (read.0 / 8)) read Tag why more.2 in
          let bad : IsTag read.0 → ⊥ = λ is. (let good = tag_test read.0 is in let no = guard.0 in absurd cc) in
          subst (λ (w : WireWhy). IsTagCause (drop place bytes) w) guard.1
          (read.0, drop read.1 bytes, begins_at bytes place read more.1, bad))
    ]

-- ---- bodies

varint_body_cause : (kind : ℕ) (bytes : List ℕ) (place : ℕ) (why : WireWhy) → HasVarint kind
    → varint_from bytes place ≡ Err why → IsBodyCause kind (drop place bytes) why
varint_body_cause kind bytes place why has e =
    elim (from_refused bytes place why e) [
      | inl short ↦ subst (λ (w : WireWhy). IsBodyCause kind (drop place bytes) w) (sym short.0) (inl (has, short.1))
      | inr long ↦ subst (λ (w : WireWhy). IsBodyCause kind (drop place bytes) w) (sym long.0) (has, long.1)
    ]

bytes_refused : (n : ℕ) (bytes : List ℕ) (place : ℕ) (why : WireWhy) → bytes_from n bytes place ≡ Err why
    → (length bytes < place + n) × (why ≡ Short)
unfolding bytes_from
bytes_refused n bytes place why e =
    let guard =
    guard_err (leb (place + n) (length bytes)) (slice_range bytes place (place + n), place + n) Short why e in
    (leb-false _ _ guard.0, sym guard.1)

zero_cause : (kind : ℕ) (bytes : List ℕ) (place : ℕ) (why : WireWhy) → kind ≡ 0 → varint_body bytes place ≡ Err why
    → IsBodyCause kind (drop place bytes) why
zero_cause kind bytes place why is e =
    elim (bind_err (varint_from bytes place) (λ value. Ok (body_varint value.0, value.1)) why e) [
      | inl refused ↦ varint_body_cause kind bytes place why (inl is) refused
      | inr more ↦ (let no = more.2 in absurd cc)
    ]

eight_cause : (kind : ℕ) (bytes : List ℕ) (place : ℕ) (why : WireWhy) → place ≤ length bytes → kind ≡ 1
    → eight_body bytes place ≡ Err why → IsBodyCause kind (drop place bytes) why
eight_cause kind bytes place why inside is e =
    elim (bind_err (bytes_from 8 bytes place) (λ eight. Ok (body_eight (from_le_bytes w64 eight.0), eight.1)) why e) [
      | inl refused ↦
          (let short = bytes_refused 8 bytes place why refused in
          let over : length bytes < place + 8 = short.0 in
          subst (λ (w : WireWhy). IsBodyCause kind (drop place bytes) w) (sym short.1)
          (inr (inl (is, omega (arith, length-drop place bytes)))))
      | inr more ↦ (let no = more.2 in absurd cc)
    ]

four_cause : (kind : ℕ) (bytes : List ℕ) (place : ℕ) (why : WireWhy) → place ≤ length bytes → kind ≡ 5
    → four_body bytes place ≡ Err why → IsBodyCause kind (drop place bytes) why
four_cause kind bytes place why inside is e =
    elim (bind_err (bytes_from 4 bytes place) (λ four. Ok (body_four (from_le_bytes w32 four.0), four.1)) why e) [
      | inl refused ↦
          (let short = bytes_refused 4 bytes place why refused in
          let over : length bytes < place + 4 = short.0 in
          subst (λ (w : WireWhy). IsBodyCause kind (drop place bytes) w) (sym short.1)
          (inr (inr (inl (is, omega (arith, length-drop place bytes))))))
      | inr more ↦ (let no = more.2 in absurd cc)
    ]

bytes_cause : (kind : ℕ) (bytes : List ℕ) (place : ℕ) (why : WireWhy) → kind ≡ 2 → bytes_body bytes place ≡ Err why
    → IsBodyCause kind (drop place bytes) why
bytes_cause kind bytes place why is e =
    elim (bind_err (varint_from bytes place)
    (λ size. bytes_from size.0 bytes size.1 >>= λ body. Ok (body_bytes size.1 body.1, body.1)) why e) [
      | inl refused ↦ varint_body_cause kind bytes place why (inr is) refused
      | inr outer ↦
          (let size : ℕ × ℕ = outer.0 in
          elim (bind_err (bytes_from size.0 bytes size.1) (λ body. Ok (body_bytes size.1 body.1, body.1)) why outer.2) [
            | inl refused ↦
                (let short = bytes_refused size.0 bytes size.1 why refused in
                let over : length bytes < size.1 + size.0 = short.0 in
                let within = (varint_from_found bytes place size outer.1).within in
                let left : length (drop size.1 bytes) < size.0 = omega (arith, length-drop size.1 bytes) in
                subst (λ (w : WireWhy). IsBodyCause kind (drop place bytes) w) (sym short.1)
                (inr (inr (inr (is, (size.0, drop size.1 bytes, begins_at bytes place size outer.1, left))))))
            | inr more ↦ (let no = more.2 in absurd cc)
          ])
    ]

body_cases : (kind : ℕ) (bytes : List ℕ) (place : ℕ) (why : WireWhy) (a b c d : Bool) → place ≤ length bytes
    → (a ≡ true → kind ≡ 0) → (b ≡ true → kind ≡ 1) → (c ≡ true → kind ≡ 2) → (d ≡ true → kind ≡ 5)
    → (a ≡ false → kind ≢ 0) → (b ≡ false → kind ≢ 1) → (c ≡ false → kind ≢ 2) → (d ≡ false → kind ≢ 5)
    → cond a (varint_body bytes place)
    (cond b (eight_body bytes place) (cond c (bytes_body bytes place) (cond d (four_body bytes place) (Err Wire))))
    ≡ Err why
    → IsBodyCause kind (drop place bytes) why
body_cases kind bytes place why true b c d inside ha hb hc hd na nb nc nd e =
    zero_cause kind bytes place why (ha refl) e
body_cases kind bytes place why false true c d inside ha hb hc hd na nb nc nd e =
    eight_cause kind bytes place why inside (hb refl) e
body_cases kind bytes place why false false true d inside ha hb hc hd na nb nc nd e =
    bytes_cause kind bytes place why (hc refl) e
body_cases kind bytes place why false false false true inside ha hb hc hd na nb nc nd e =
    four_cause kind bytes place why inside (hd refl) e
body_cases kind bytes place why false false false false inside ha hb hc hd na nb nc nd e =
    subst (λ (w : WireWhy). IsBodyCause kind (drop place bytes) w) (same_refusal {A = Body × ℕ} Wire why e)
    (na refl, nb refl, nc refl, nd refl)

not_same : (a b : ℕ) → eqb a b ≡ false → a ≢ b
not_same a b e is = let same = eq-eqb a b is in absurd cc

pub body_cause : (kind : ℕ) (bytes : List ℕ) (place : ℕ) (why : WireWhy) → place ≤ length bytes
    → body_from kind bytes place ≡ Err why → IsBodyCause kind (drop place bytes) why
unfolding body_from
body_cause kind bytes place why inside e =
    body_cases kind bytes place why (eqb kind 0) (eqb kind 1) (eqb kind 2) (eqb kind 5) inside
    (eqb-true kind 0) (eqb-true kind 1) (eqb-true kind 2) (eqb-true kind 5)
    (not_same kind 0) (not_same kind 1) (not_same kind 2) (not_same kind 5) e

bytes_short : (n : ℕ) (bytes : List ℕ) (place : ℕ) → length bytes < place + n → bytes_from n bytes place ≡ Err Short
unfolding bytes_from
bytes_short n bytes place over = let test : leb (place + n) (length bytes) ≡ false = lt-leb _ _ over in rw test refl

varint_again_body : (kind : ℕ) (bytes : List ℕ) (place : ℕ) (why : WireWhy) → HasVarint kind
    → varint_at (drop place bytes) ≡ Err why → body_from kind bytes place ≡ Err why
unfolding body_from varint_from
varint_again_body kind bytes place why (inl is) e =
    subst (λ (n : ℕ). body_from n bytes place ≡ Err why) (sym is) (rw e refl)
varint_again_body kind bytes place why (inr is) e =
    subst (λ (n : ℕ). body_from n bytes place ≡ Err why) (sym is) (rw e refl)

eight_again : (bytes : List ℕ) (place : ℕ) → place ≤ length bytes → length (drop place bytes) < 8
    → body_from 1 bytes place ≡ Err Short
unfolding body_from
eight_again bytes place inside few = rw (bytes_short 8 bytes place (omega (arith, length-drop place bytes))) refl

four_again : (bytes : List ℕ) (place : ℕ) → place ≤ length bytes → length (drop place bytes) < 4
    → body_from 5 bytes place ≡ Err Short
unfolding body_from
four_again bytes place inside few = rw (bytes_short 4 bytes place (omega (arith, length-drop place bytes))) refl

bytes_again : (bytes : List ℕ) (place size : ℕ) (rest : List ℕ) → place ≤ length bytes
    → BeginsWith (drop place bytes) size rest → length rest < size → body_from 2 bytes place ≡ Err Short
unfolding body_from varint_from
bytes_again bytes place size rest inside begins few =
    let whole : length (drop place bytes) ≡ length begins.text + length rest =
    ap (length {A = ℕ}) begins.whole ∙ length-append begins.text rest in
    let over : length bytes < place + length begins.text + size = omega (arith, length-drop place bytes) in
    rw (varint_begins (drop place bytes) size rest begins, bytes_short size bytes (place + length begins.text) over)
    refl

short_again : (kind : ℕ) (bytes : List ℕ) (place : ℕ) → place ≤ length bytes → EndsInBody kind (drop place bytes)
    → body_from kind bytes place ≡ Err Short
short_again kind bytes place inside (inl h) =
    varint_again_body kind bytes place Short h.0 (varint_short (drop place bytes) h.1)
short_again kind bytes place inside (inr (inl h)) =
    subst (λ (n : ℕ). body_from n bytes place ≡ Err Short) (sym h.0) (eight_again bytes place inside h.1)
short_again kind bytes place inside (inr (inr (inl h))) =
    subst (λ (n : ℕ). body_from n bytes place ≡ Err Short) (sym h.0) (four_again bytes place inside h.1)
short_again kind bytes place inside (inr (inr (inr h))) =
    subst (λ (n : ℕ). body_from n bytes place ≡ Err Short) (sym h.0)
    (bytes_again bytes place h.1.0 h.1.1 inside h.1.2 h.1.3)

differs : (a b : ℕ) → a ≢ b → eqb a b ≡ false
differs a b h = not_true _ (λ e. h (eqb-true a b e))

unknown_again : (kind : ℕ) (bytes : List ℕ) (place : ℕ) → kind ≢ 0 → kind ≢ 1 → kind ≢ 2 → kind ≢ 5
    → body_from kind bytes place ≡ Err Wire
unfolding body_from
unknown_again kind bytes place h0 h1 h2 h5 =
    rw (differs kind 0 h0, differs kind 1 h1, differs kind 2 h2, differs kind 5 h5) refl

pub body_refused : (kind : ℕ) (bytes : List ℕ) (place : ℕ) (why : WireWhy) → place ≤ length bytes
    → IsBodyCause kind (drop place bytes) why → body_from kind bytes place ≡ Err why
body_refused kind bytes place Short inside h = short_again kind bytes place inside h
body_refused kind bytes place Varint inside h =
    varint_again_body kind bytes place Varint h.0 (varint_long (drop place bytes) h.1)
body_refused kind bytes place Tag inside h = absurd h
body_refused kind bytes place Wire inside h = unknown_again kind bytes place h.0 h.1 h.2 h.3

-- ---- fields

pub field_refused : (bytes : List ℕ) (place : ℕ) (why : WireWhy) → place ≤ length bytes → IsCause (drop place bytes) why
    → field_from bytes place ≡ Err why
unfolding field_from
field_refused bytes place why inside (inl h) = rw (tag_again bytes place why h) refl
field_refused bytes place why inside (inr h) =
    let after : ℕ = place + length h.begins.text in
    let tag : tag_from bytes place ≡ Ok (h.tag, after) = tag_read bytes place h.tag h.body h.begins h.is_tag in
    let size : length (drop place bytes) ≡ length h.begins.text + length h.body =
    ap (length {A = ℕ}) h.begins.whole ∙ length-append h.begins.text h.body in
    let within : after ≤ length bytes = omega (arith, length-drop place bytes) in
    let rest : drop after bytes ≡ h.body =
    sym (drop-drop (length h.begins.text) place bytes) ∙ ap (drop (length h.begins.text)) h.begins.whole
    ∙ drop_at h.begins.text h.body (length h.begins.text) refl in
    let body : body_from (h.tag % 8) bytes after ≡ Err why =
    body_refused (h.tag % 8) bytes after why within
    (subst (λ (b : List ℕ). IsBodyCause (h.tag % 8) b why) (sym rest) h.cause) in
    rw (tag, body) refl

pub field_cause : (bytes : List ℕ) (place : ℕ) (why : WireWhy) → field_from bytes place ≡ Err why
    → IsCause (drop place bytes) why
unfolding field_from
field_cause bytes place why e =
    elim (bind_err (tag_from bytes place)
    (λ tag. body_from (tag.0 % 8) bytes tag.1 >>= λ body. Ok (tag.0 / 8, body.0, body.1)) why e) [
      | inl refused ↦ inl (tag_cause bytes place why refused)
      | inr outer ↦
          (let tag : ℕ × ℕ = outer.0 in
          let found = tag_found bytes place tag outer.1 in
          let within = (varint_from_found bytes place tag found.0).within in
          elim (bind_err (body_from (tag.0 % 8) bytes tag.1) (λ body. Ok (tag.0 / 8, body.0, body.1)) why outer.2) [
            | inl refused ↦
                inr (record {
                  tag = tag.0;
                  body = drop tag.1 bytes;
                  begins = begins_at bytes place tag found.0;
                  is_tag = found.1;
                  cause = body_cause (tag.0 % 8) bytes tag.1 why within refused;
                })
            | inr more ↦ (let no = more.2 in absurd cc)
          ])
    ]

-- ---- the laws

pub causes_are_one : (bytes : List ℕ) (why other : WireWhy) → IsCause bytes why → IsCause bytes other → why ≡ other
causes_are_one bytes why other h k =
    let first = field_refused bytes 0 why (omega arith) h in
    let second = field_refused bytes 0 other (omega arith) k in
    same_refusal {A = ℕ × Body × ℕ} why other (sym first ∙ second)

pub fields_have_none : (bytes : List ℕ) (why : WireWhy) → BeginsWithField bytes → IsCause bytes why → ⊥
fields_have_none bytes why field h =
    let refused = field_refused bytes 0 why (omega arith) h in
    let at : At bytes 0 field.text = record { within = omega arith; rest = field.rest; is = field.whole } in
    let read = field_again bytes 0 field.text field.number field.content at field.spelled in
    absurd cc

pub causes_are_found : (bytes : List ℕ) → BeginsWithField bytes ⊎ ((why : WireWhy) × IsCause bytes why)
causes_are_found bytes =
    elim (cases_read (field_from bytes 0)) [
      | inl found ↦
          (let read : ℕ × Body × ℕ = found.0 in
          let is = field_found bytes 0 read found.1 in
          let at = at_between bytes 0 read.2 (omega arith) is.within in
          inl (record {
            text = slice_range bytes 0 read.2;
            rest = at.rest;
            whole = at.is;
            number = read.0;
            content = content_in bytes read.1;
            spelled = is.spelled;
          }))
      | inr none ↦ inr (none.0, field_cause bytes 0 none.0 none.1)
    ]
