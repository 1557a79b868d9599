-- A field is read as what its spelling spells, and what is read is spelled.
use Rattle.std.proofs.Common.{◌≡◌, ℕ, ◌+◌, ◌-◌, ◌*◌, ◌/◌, ◌%◌, ◌^◌, ◌<◌, ◌≤◌, Bool, true, false, cond, eqb, ltb, leb}
use Rattle.std.proofs.Common.{◌&&◌, ◌⊎◌, inl, inr, List, [], ◌∷◌, ◌++◌, length, take, drop, Result, Ok, Err, refl, sym}
use Rattle.std.proofs.Common.{ap, subst, ◌∙◌, arith, length-append, length-drop}
use Rattle.std.proofs.lemmas.Bool.{lt-ltb, le-leb, ltb-true, leb-true, eqb-true, and_parts}
use Rattle.std.specs.List.{slice_range}
use Rattle.std.specs.Int.{w32, w64, from_le_bytes}
use Rattle.pb_wire.specs.declared.reader.Body.{Body}
use Rattle.pb_wire.specs.declared.reader.Body.TheVariants.{Varint as body_varint, Eight as body_eight}
use Rattle.pb_wire.specs.declared.reader.Body.TheVariants.{Bytes as body_bytes, Four as body_four}
use Rattle.pb_wire.specs.declared.reader.WireWhy.{WireWhy}
use Rattle.pb_wire.specs.declared.reader.WireWhy.TheVariants.{Short, Tag, Wire}
use Rattle.pb_wire.specs.Varint.{IsVarint, varint_at}
use Rattle.pb_wire.specs.Fields.{FieldAt, ◌>>=◌, varint_from, tag_from, bytes_from, varint_body, eight_body, bytes_body}
use Rattle.pb_wire.specs.Fields.{four_body, body_from, field_from}
use Rattle.pb_wire.specs.Spelling.{Content, Varint, Eight, Bytes, Four, content_in, wire_type, tag_of, IsBody}
use Rattle.pb_wire.specs.Spelling.{IsSpelling}
use Rattle.pb_wire.specs.InRow.{EndsAt, IsFieldAt}
use Rattle.pb_wire.specs.ReadBack.{body_before}
use Rattle.pb_wire.proofs.VarintLaws.{varint_again, varint_found}
use Rattle.pb_wire.proofs.Places.{At, at_end, at_first, at_next, at_slice, at_between, length_slice, slice_split}

pub cases_read : {A : Type 0} (r : Result A WireWhy) → ((x : A) × (r ≡ Ok x)) ⊎ ((why : WireWhy) × (r ≡ Err why))
cases_read (Ok x) = inl (x, refl)
cases_read (Err why) = inr (why, refl)

pub bind_ok : {A B : Type 0} (r : Result A WireWhy) (f : A → Result B WireWhy) (y : B) → (r >>= f) ≡ Ok y
    → (x : A) × (r ≡ Ok x) × (f x ≡ Ok y)
bind_ok (Ok x) f y e = (x, refl, e)
bind_ok (Err why) f y e = absurd cc

pub guard_ok : {A : Type 0} (b : Bool) (x y : A) (why : WireWhy) → cond b (Ok x) (Err why) ≡ Ok y → (b ≡ true) × (x ≡ y)
guard_ok true x y why e = (refl, cc)
guard_ok false x y why e = absurd cc

abbrev pub ok_wire : {A : Type 0} → A → Result A WireWhy
ok_wire x = Ok x

ok_is : {A : Type 0} (x y : A) → ok_wire x ≡ ok_wire y → x ≡ y
ok_is x y e = cc

abbrev pub read_as : ℕ → Body → ℕ → Result (ℕ × Body × ℕ) WireWhy
read_as number body after = Ok (number, body, after)

-- what is spelled is read

pub varint_from_at : (bytes : List ℕ) (place : ℕ) (text : List ℕ) (value : ℕ) → At bytes place text
    → IsVarint text value → varint_from bytes place ≡ Ok (value, place + length text)
unfolding varint_from
varint_from_at bytes place text value at is = rw (at.is, varint_again text at.rest value is) refl

bytes_from_at : (bytes : List ℕ) (place : ℕ) (text : List ℕ) → At bytes place text
    → bytes_from (length text) bytes place ≡ Ok (text, place + length text)
unfolding bytes_from
bytes_from_at bytes place text at =
    let inside : leb (place + length text) (length bytes) ≡ true = le-leb _ _ (at_end bytes place text at) in
    rw (inside, at_slice bytes place text at) refl

fixed_at : (n : ℕ) (bytes : List ℕ) (place : ℕ) (text : List ℕ) → At bytes place text → length text ≡ n
    → bytes_from n bytes place ≡ Ok (text, place + length text)
fixed_at n bytes place text at size =
    subst (λ (m : ℕ). bytes_from m bytes place ≡ Ok (text, place + length text)) size
    (bytes_from_at bytes place text at)

pub body_again : (bytes : List ℕ) (place : ℕ) (text : List ℕ) (content : Content) → At bytes place text
    → IsBody text content
    → body_from (wire_type content) bytes place ≡ Ok (body_before (place + length text) content, place + length text)
unfolding body_from
body_again bytes place text (Varint value) at is = rw (varint_from_at bytes place text value at is) refl
body_again bytes place text (Eight value) at is = rw (fixed_at 8 bytes place text at is.0, is.1) refl
body_again bytes place text (Four value) at is = rw (fixed_at 4 bytes place text at is.0, is.1) refl
body_again bytes place text (Bytes body) at is =
    let parts : At bytes place (is.0 ++ body) = subst (λ (t : List ℕ). At bytes place t) is.2 at in
    let start : ℕ = place + length is.0 in
    let last : start + length body ≡ place + length text =
    omega (arith, ap (length {A = ℕ}) is.2, length-append is.0 body) in
    let first : place + length text - length body ≡ start = omega arith in
    rw (
      varint_from_at bytes place is.0 (length body) (at_first bytes place is.0 body parts) is.1,
      bytes_from_at bytes start body (at_next bytes place is.0 body parts),
      last,
      first,
    ) refl

tag_fits : (number : ℕ) (content : Content)
    → (tag_of number content / 8 ≡ number) × (tag_of number content % 8 ≡ wire_type content)
tag_fits number (Varint value) = (omega arith, omega arith)
tag_fits number (Eight value) = (omega arith, omega arith)
tag_fits number (Bytes bytes) = (omega arith, omega arith)
tag_fits number (Four value) = (omega arith, omega arith)

pub field_again : (bytes : List ℕ) (place : ℕ) (text : List ℕ) (number : ℕ) (content : Content) → At bytes place text
    → IsSpelling text number content
    → field_from bytes place ≡ Ok (number, body_before (place + length text) content, place + length text)
unfolding field_from tag_from
field_again bytes place text number content at is =
    let parts : At bytes place (is.tag ++ is.body) = subst (λ (t : List ℕ). At bytes place t) is.whole at in
    let fits = tag_fits number content in
    let tag : ℕ = tag_of number content in
    let small : ltb tag (2 ^ 32) ≡ true = lt-ltb _ _ is.small in
    let positive : ltb 0 (tag / 8) ≡ true = lt-ltb _ _ (subst (λ (n : ℕ). 0 < n) (sym fits.0) is.positive) in
    let last : place + length is.tag + length is.body ≡ place + length text =
    omega (arith, ap (length {A = ℕ}) is.whole, length-append is.tag is.body) in
    let body : body_from (wire_type content) bytes (place + length is.tag)
    ≡ Ok (body_before (place + length text) content, place + length text) =
    subst (λ (n : ℕ). body_from (wire_type content) bytes (place + length is.tag) ≡ Ok (body_before n content, n)) last
    (body_again bytes (place + length is.tag) is.body content (at_next bytes place is.tag is.body parts) is.body_is) in
    rw (
      varint_from_at bytes place is.tag tag (at_first bytes place is.tag is.body parts) is.tag_is,
      small,
      positive,
      fits.1,
      body,
      fits.0,
    )
    refl

-- what is read is spelled

pub record VarintFound (bytes : List ℕ) (place : ℕ) (read : ℕ × ℕ) : Type 0 where
  pub rises : place < read.1
  pub within : read.1 ≤ length bytes
  pub varint : IsVarint (slice_range bytes place read.1) read.0

pub varint_from_found : (bytes : List ℕ) (place : ℕ) (read : ℕ × ℕ) → varint_from bytes place ≡ Ok read
    → VarintFound bytes place read
unfolding varint_from
varint_from_found bytes place read e =
    let parts = bind_ok (varint_at (drop place bytes)) (λ r. Ok (r.0, place + r.1)) read e in
    let found = varint_found (drop place bytes) parts.0 parts.1 in
    let some = found.some in
    let within = found.within in
    let back : parts.0.1 ≡ place + parts.0.1 - place = omega arith in
    let is : VarintFound bytes place (parts.0.0, place + parts.0.1) = record {
      rises = omega arith;
      within = omega (arith, length-drop place bytes);
      varint = subst (λ (n : ℕ). IsVarint (take n (drop place bytes)) parts.0.0) back found.varint;
    } in
    subst (λ (r : ℕ × ℕ). VarintFound bytes place r) (ok_is (parts.0.0, place + parts.0.1) read parts.2) is

pub record BodyFound (kind : ℕ) (bytes : List ℕ) (place : ℕ) (read : Body × ℕ) : Type 0 where
  pub order : place ≤ read.1
  pub within : read.1 ≤ length bytes
  pub kind_is : wire_type (content_in bytes read.0) ≡ kind
  pub body : IsBody (slice_range bytes place read.1) (content_in bytes read.0)
  pub ends : EndsAt read.1 read.0

bytes_from_found : (n : ℕ) (bytes : List ℕ) (place : ℕ) (read : List ℕ × ℕ) → bytes_from n bytes place ≡ Ok read
    → (place + n ≤ length bytes) × ((slice_range bytes place (place + n), place + n) ≡ read)
unfolding bytes_from
bytes_from_found n bytes place read e =
    let parts =
    guard_ok (leb (place + n) (length bytes)) (slice_range bytes place (place + n), place + n) read Short e in
    (leb-true _ _ parts.0, parts.1)

varint_body_found : (bytes : List ℕ) (place : ℕ) (read : Body × ℕ) → varint_body bytes place ≡ Ok read
    → BodyFound 0 bytes place read
varint_body_found bytes place read e =
    let parts = bind_ok (varint_from bytes place) (λ value. Ok (body_varint value.0, value.1)) read e in
    let found = varint_from_found bytes place parts.0 parts.1 in
    let rises = found.rises in
    let is : BodyFound 0 bytes place (body_varint parts.0.0, parts.0.1) =
    record { order = omega arith; within = found.within; kind_is = refl; body = found.varint; ends = tt } in
    subst (λ (r : Body × ℕ). BodyFound 0 bytes place r) (ok_is (body_varint parts.0.0, parts.0.1) read parts.2) is

eight_body_found : (bytes : List ℕ) (place : ℕ) (read : Body × ℕ) → eight_body bytes place ≡ Ok read
    → BodyFound 1 bytes place read
eight_body_found bytes place read e =
    let parts =
    bind_ok (bytes_from 8 bytes place) (λ eight. Ok (body_eight (from_le_bytes w64 eight.0), eight.1)) read e in
    let found = bytes_from_found 8 bytes place parts.0 parts.1 in
    let text : List ℕ = slice_range bytes place (place + 8) in
    let is : BodyFound 1 bytes place (body_eight (from_le_bytes w64 text), place + 8) =
    record {
      order = omega arith;
      within = found.0;
      kind_is = refl;
      body = (length_slice bytes place (place + 8) found.0 ∙ omega arith, refl);
      ends = tt;
    } in
    subst (λ (r : Body × ℕ). BodyFound 1 bytes place r)
    (ap (λ (r : List ℕ × ℕ). (body_eight (from_le_bytes w64 r.0), r.1)) found.1
    ∙ ok_is (body_eight (from_le_bytes w64 parts.0.0), parts.0.1) read parts.2)
    is

four_body_found : (bytes : List ℕ) (place : ℕ) (read : Body × ℕ) → four_body bytes place ≡ Ok read
    → BodyFound 5 bytes place read
four_body_found bytes place read e =
    let parts = bind_ok (bytes_from 4 bytes place) (λ four. Ok (body_four (from_le_bytes w32 four.0), four.1)) read e in
    let found = bytes_from_found 4 bytes place parts.0 parts.1 in
    let text : List ℕ = slice_range bytes place (place + 4) in
    let is : BodyFound 5 bytes place (body_four (from_le_bytes w32 text), place + 4) =
    record {
      order = omega arith;
      within = found.0;
      kind_is = refl;
      body = (length_slice bytes place (place + 4) found.0 ∙ omega arith, refl);
      ends = tt;
    } in
    subst (λ (r : Body × ℕ). BodyFound 5 bytes place r)
    (ap (λ (r : List ℕ × ℕ). (body_four (from_le_bytes w32 r.0), r.1)) found.1
    ∙ ok_is (body_four (from_le_bytes w32 parts.0.0), parts.0.1) read parts.2)
    is

bytes_body_found : (bytes : List ℕ) (place : ℕ) (read : Body × ℕ) → bytes_body bytes place ≡ Ok read
    → BodyFound 2 bytes place read
bytes_body_found bytes place read e =
    let outer =
    bind_ok (varint_from bytes place)
    (λ size. bytes_from size.0 bytes size.1 >>= λ body. Ok (body_bytes size.1 body.1, body.1)) read e in
    let size : ℕ × ℕ = outer.0 in
    let head = varint_from_found bytes place size outer.1 in
    let inner = bind_ok (bytes_from size.0 bytes size.1) (λ body. Ok (body_bytes size.1 body.1, body.1)) read outer.2 in
    let found = bytes_from_found size.0 bytes size.1 inner.0 inner.1 in
    let past : ℕ = size.1 + size.0 in
    let rises = head.rises in
    let text : List ℕ = slice_range bytes size.1 past in
    let count : size.0 ≡ length text = sym (length_slice bytes size.1 past found.0 ∙ omega arith) in
    let is : BodyFound 2 bytes place (body_bytes size.1 past, past) = record {
      order = omega arith;
      within = found.0;
      kind_is = refl;
      body = (
        slice_range bytes place size.1,
        subst (λ (n : ℕ). IsVarint (slice_range bytes place size.1) n) count head.varint,
        slice_split bytes place size.1 past (omega arith) (omega arith) found.0,
      );
      ends = (omega arith, refl);
    } in
    subst (λ (r : Body × ℕ). BodyFound 2 bytes place r)
    (ap (λ (r : List ℕ × ℕ). (body_bytes size.1 r.1, r.1)) found.1
    ∙ ok_is (body_bytes size.1 inner.0.1, inner.0.1) read inner.2)
    is

-- which test of the type held
body_cases : (kind : ℕ) (bytes : List ℕ) (place : ℕ) (read : Body × ℕ) (a b c d : Bool)
    → (a ≡ true → kind ≡ 0) → (b ≡ true → kind ≡ 1) → (c ≡ true → kind ≡ 2) → (d ≡ true → kind ≡ 5)
    → cond a (varint_body bytes place)
    (cond b (eight_body bytes place) (cond c (bytes_body bytes place) (cond d (four_body bytes place) (Err Wire))))
    ≡ Ok read
    → BodyFound kind bytes place read
body_cases kind bytes place read true b c d ha hb hc hd e =
    subst (λ (n : ℕ). BodyFound n bytes place read) (sym (ha refl)) (varint_body_found bytes place read e)
body_cases kind bytes place read false true c d ha hb hc hd e =
    subst (λ (n : ℕ). BodyFound n bytes place read) (sym (hb refl)) (eight_body_found bytes place read e)
body_cases kind bytes place read false false true d ha hb hc hd e =
    subst (λ (n : ℕ). BodyFound n bytes place read) (sym (hc refl)) (bytes_body_found bytes place read e)
body_cases kind bytes place read false false false true ha hb hc hd e =
    subst (λ (n : ℕ). BodyFound n bytes place read) (sym (hd refl)) (four_body_found bytes place read e)
body_cases kind bytes place read false false false false ha hb hc hd e = absurd cc

pub body_found : (kind : ℕ) (bytes : List ℕ) (place : ℕ) (read : Body × ℕ) → body_from kind bytes place ≡ Ok read
    → BodyFound kind bytes place read
unfolding body_from
body_found kind bytes place read e =
    body_cases kind bytes place read (eqb kind 0) (eqb kind 1) (eqb kind 2) (eqb kind 5) (eqb-true kind 0)
    (eqb-true kind 1) (eqb-true kind 2) (eqb-true kind 5) e

pub field_of : ℕ → ℕ × Body × ℕ → FieldAt
field_of place read = record { number = read.0; body = read.1; place = place }

pub record FieldFound (bytes : List ℕ) (place : ℕ) (read : ℕ × Body × ℕ) : Type 0 where
  pub rises : place < read.2
  pub within : read.2 ≤ length bytes
  pub number : (0 < read.0) × (read.0 < 2 ^ 29)
  pub spelled : IsSpelling (slice_range bytes place read.2) read.0 (content_in bytes read.1)
  pub ends : EndsAt read.2 read.1

pub field_found : (bytes : List ℕ) (place : ℕ) (read : ℕ × Body × ℕ) → field_from bytes place ≡ Ok read
    → FieldFound bytes place read
unfolding field_from tag_from
field_found bytes place read e =
    let outer =
    bind_ok (tag_from bytes place) (λ tag. body_from (tag.0 % 8) bytes tag.1 >>= λ body. Ok (tag.0 / 8, body.0, body.1))
    read e in
    let tag : ℕ × ℕ = outer.0 in
    let first =
    bind_ok (varint_from bytes place) (λ t. cond (ltb t.0 (2 ^ 32) && ltb 0 (t.0 / 8)) (Ok t) (Err Tag)) tag outer.1 in
    let guard = guard_ok (ltb first.0.0 (2 ^ 32) && ltb 0 (first.0.0 / 8)) first.0 tag Tag first.2 in
    let tests = and_parts _ _ guard.0 in
    let found : VarintFound bytes place tag =
    subst (λ (t : ℕ × ℕ). VarintFound bytes place t) guard.1 (varint_from_found bytes place first.0 first.1) in
    let small : tag.0 < 2 ^ 32 = subst (λ (t : ℕ × ℕ). t.0 < 2 ^ 32) guard.1 (ltb-true _ _ tests.0) in
    let positive : 0 < tag.0 / 8 = subst (λ (t : ℕ × ℕ). 0 < t.0 / 8) guard.1 (ltb-true _ _ tests.1) in
    let inner = bind_ok (body_from (tag.0 % 8) bytes tag.1) (λ body. Ok (tag.0 / 8, body.0, body.1)) read outer.2 in
    let body : Body × ℕ = inner.0 in
    let got = body_found (tag.0 % 8) bytes tag.1 body inner.1 in
    let rises = found.rises in
    let order = got.order in
    let content : Content = content_in bytes body.0 in
    let whole : tag_of (tag.0 / 8) content ≡ tag.0 = ap (λ (n : ℕ). tag.0 / 8 * 8 + n) got.kind_is ∙ omega arith in
    let is : FieldFound bytes place (tag.0 / 8, body.0, body.1) = record {
      rises = omega arith;
      within = got.within;
      number = (positive, omega arith);
      spelled = record {
        tag = slice_range bytes place tag.1;
        body = slice_range bytes tag.1 body.1;
        whole = slice_split bytes place tag.1 body.1 (omega arith) order got.within;
        positive = positive;
        small = subst (λ (n : ℕ). n < 2 ^ 32) (sym whole) small;
        tag_is = subst (λ (n : ℕ). IsVarint (slice_range bytes place tag.1) n) (sym whole) found.varint;
        body_is = got.body;
      };
      ends = got.ends;
    } in
    subst (λ (r : ℕ × Body × ℕ). FieldFound bytes place r) (ok_is (tag.0 / 8, body.0, body.1) read inner.2) is

-- the two together

body_is : (bytes : List ℕ) (after : ℕ) (body : Body) → after ≤ length bytes → EndsAt after body
    → body_before after (content_in bytes body) ≡ body
body_is bytes after (body_varint value) within ends = refl
body_is bytes after (body_eight value) within ends = refl
body_is bytes after (body_four value) within ends = refl
body_is bytes after (body_bytes start last) within ends =
    let order = ends.0 in
    let last_is = ends.1 in
    let size = length_slice bytes start last (omega arith) in
    let first : after - length (slice_range bytes start last) ≡ start = omega arith in
    rw (first, sym last_is) refl

alone_some : (x : List ℕ) (value : ℕ) → IsVarint x value → 0 < length x
alone_some [] value is = absurd is.last
alone_some (b ∷ x) value is = omega arith

pub spelling_some : (text : List ℕ) (number : ℕ) (content : Content) → IsSpelling text number content → 0 < length text
spelling_some text number content is =
    omega (arith, ap (length {A = ℕ}) is.whole, length-append is.tag is.body, alone_some is.tag _ is.tag_is)

pub field_at_is_read : (bytes : List ℕ) (field : FieldAt) (after : ℕ) → IsFieldAt bytes field after
    → (field_from bytes field.place ≡ Ok (field.number, field.body, after)) × (field.place < after)
field_at_is_read bytes field after holds =
    let some = spelling_some _ _ _ holds.spelled in
    let within = holds.within in
    let size = length_slice bytes field.place after within in
    let order : field.place < after = omega arith in
    let text : List ℕ = slice_range bytes field.place after in
    let at = at_between bytes field.place after (omega arith) within in
    let last : field.place + length text ≡ after = omega arith in
    let read = field_again bytes field.place text field.number (content_in bytes field.body) at holds.spelled in (
      read ∙ ap (λ (n : ℕ). read_as field.number (body_before n (content_in bytes field.body)) n) last
          ∙ ap (λ (b : Body). read_as field.number b after) (body_is bytes after field.body within holds.ends),
      order,
    )
