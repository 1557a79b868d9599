-- The fields of bytes one after the other are their fields in order.
use Rattle.std.proofs.Common.{◌≡◌, ℕ, zero, suc, ◌+◌, ◌-◌, ◌<◌, ◌≤◌, List, [], ◌∷◌, ◌++◌, length, take, drop, map}
use Rattle.std.proofs.Common.{Option, Some, None, refl, sym, ap, subst, ◌∙◌, inl, inr, Err, add-zero, arith}
use Rattle.std.proofs.Common.{length-append}
use Rattle.std.proofs.Math.Seq.{drop-append-add}
use Rattle.std.proofs.lemmas.Bool.{cases_lt}
use Rattle.std.proofs.lemmas.List.{drop-append-le, take-append-le, append-nil, length-drop, map-append}
use Rattle.std.specs.Prelude.{MatchOption, slice_range}
use Rattle.std.specs.List.{AllByRecursion, concat, flat_map}
use Rattle.pb_wire.specs.declared.reader.Body.{Body}
use Rattle.pb_wire.specs.declared.reader.Body.TheVariants.{Varint, Eight, Bytes, Four}
use Rattle.pb_wire.specs.declared.reader.WireWhy.{WireWhy}
use Rattle.pb_wire.specs.declared.reader.WireWhy.TheVariants.{Short}
use Rattle.pb_wire.specs.Fields.{FieldAt, field_from, fields_within, fields_from, fields_of, fields_end, end_within}
use Rattle.pb_wire.specs.Fields.{next_at, fault_from, fields_fault}
use Rattle.pb_wire.specs.InRow.{EndsAt, IsFieldAt, AreInRow}
use Rattle.pb_wire.specs.Spelling.{Content, Bytes as content_bytes, content_in}
use Rattle.pb_wire.specs.ReadBack.{FieldValue, values_of}
use Rattle.pb_wire.proofs.RowLaws.{nothing_past, fields_in_row, fields_are_longest, fault_is_after}
use Rattle.riemann_msg.specs.Draft.{value_at}

slice_front : (a b : List ℕ) (i j : ℕ) → j ≤ length a → slice_range (a ++ b) i j ≡ slice_range a i j
slice_front a b i j within = elim (cases_lt i j) [
  | inl some ↦
      let long : j - i ≤ length (drop i a) = omega (arith, length-drop i a) in
      ap (take (j - i)) (drop-append-le i a b (omega arith)) ∙ take-append-le (j - i) (drop i a) b long
  | inr none ↦ let empty : j - i ≡ 0 = omega arith in rw empty refl
]

slice_following : (a b : List ℕ) (i j : ℕ) → slice_range (a ++ b) (length a + i) (length a + j) ≡ slice_range b i j
slice_following a b i j =
    let same : (length a + j) - (length a + i) ≡ j - i = omega arith in
    rw same (ap (take (j - i)) (drop-append-add a b i))

-- ---- a row, in longer bytes

content_front : (a b : List ℕ) (after : ℕ) (body : Body) → after ≤ length a → EndsAt after body
    → content_in (a ++ b) body ≡ content_in a body
content_front a b after (Varint value) within ends = refl
content_front a b after (Eight value) within ends = refl
content_front a b after (Four value) within ends = refl
content_front a b after (Bytes start last) within ends =
    let short : last ≤ length a = omega (arith, ends.1) in
    ap (λ (bytes : List ℕ). content_bytes bytes) (slice_front a b start last short)

holds_front : (a b : List ℕ) (field : FieldAt) (after : ℕ) → IsFieldAt a field after → IsFieldAt (a ++ b) field after
holds_front a b field after holds = record {
  within = omega (arith, holds.within, length-append a b);
  spelled =
      rw (slice_front a b field.place after holds.within, content_front a b after field.body holds.within holds.ends)
      holds.spelled;
  ends = holds.ends;
}

row_first_part : (a b : List ℕ) (place : ℕ) (fields : List FieldAt) (last : ℕ) → AreInRow a place fields last
    → AreInRow (a ++ b) place fields last
row_first_part a b place [] last row = row
row_first_part a b place (field ∷ fields) last row =
    (row.0, row.1, holds_front a b field row.1 row.2, row_first_part a b row.1 fields last row.3)

-- ---- a row, further on

moved_body : ℕ → Body → Body
moved_body n (Varint value) = Varint value
moved_body n (Eight value) = Eight value
moved_body n (Four value) = Four value
moved_body n (Bytes start last) = Bytes (n + start) (n + last)

abbrev moved_field : ℕ → FieldAt → FieldAt
moved_field n field = record { number = field.number; body = moved_body n field.body; place = n + field.place }

content_following : (a b : List ℕ) (body : Body) → content_in (a ++ b) (moved_body (length a) body) ≡ content_in b body
unfolding moved_body
content_following a b (Varint value) = refl
content_following a b (Eight value) = refl
content_following a b (Four value) = refl
content_following a b (Bytes start last) = ap (λ (bytes : List ℕ). content_bytes bytes) (slice_following a b start last)

ends_following : (n after : ℕ) (body : Body) → EndsAt after body → EndsAt (n + after) (moved_body n body)
unfolding moved_body
ends_following n after (Varint value) ends = tt
ends_following n after (Eight value) ends = tt
ends_following n after (Four value) ends = tt
ends_following n after (Bytes start last) ends = (omega (arith, ends.0), omega (arith, ends.1))

holds_following : (a b : List ℕ) (field : FieldAt) (after : ℕ) → IsFieldAt b field after
    → IsFieldAt (a ++ b) (moved_field (length a) field) (length a + after)
holds_following a b field after holds = record {
  within = omega (arith, holds.within, length-append a b);
  spelled = rw (slice_following a b field.place after, content_following a b field.body) holds.spelled;
  ends = ends_following (length a) after field.body holds.ends;
}

row_after : (a b : List ℕ) (place : ℕ) (fields : List FieldAt) (last : ℕ) → AreInRow b place fields last
    → AreInRow (a ++ b) (length a + place) (map (moved_field (length a)) fields) (length a + last)
row_after a b place [] last row = ap (λ n. length a + n) row
row_after a b place (field ∷ fields) last row = (
  ap (λ n. length a + n) row.0,
  length a + row.1,
  holds_following a b field row.1 row.2,
  row_after a b row.1 fields last row.3,
)

row_append : (bytes : List ℕ) (place : ℕ) (xs ys : List FieldAt) (middle last : ℕ) → AreInRow bytes place xs middle
    → AreInRow bytes middle ys last → AreInRow bytes place (xs ++ ys) last
row_append bytes place [] ys middle last row rest = subst (λ (p : ℕ). AreInRow bytes p ys last) (sym row) rest
row_append bytes place (x ∷ xs) ys middle last row rest =
    (row.0, row.1, row.2, row_append bytes row.1 xs ys middle last row.3 rest)

-- ---- what the fields of a row hold

values_first_part : (a b : List ℕ) (place : ℕ) (fields : List FieldAt) (last : ℕ) → AreInRow a place fields last
    → map (value_at (a ++ b)) fields ≡ map (value_at a) fields
values_first_part a b place [] last row = refl
values_first_part a b place (field ∷ fields) last row =
    let one : value_at (a ++ b) field ≡ value_at a field =
    ap (λ (content : Content). value field.number content)
    (content_front a b row.1 field.body row.2.within row.2.ends) in
    let more : map (value_at (a ++ b)) fields ≡ map (value_at a) fields =
    values_first_part a b row.1 fields last row.3 in
    cc
  where
    value : ℕ → Content → FieldValue
    value number content = record { number = number; content = content }

values_following : (a b : List ℕ) (fields : List FieldAt)
    → map (value_at (a ++ b)) (map (moved_field (length a)) fields) ≡ map (value_at b) fields
values_following a b [] = refl
values_following a b (field ∷ fields) =
    let one : content_in (a ++ b) (moved_body (length a) field.body) ≡ content_in b field.body =
    content_following a b field.body in
    rw (one, values_following a b fields) refl

-- ---- two texts one after the other

none_within : (n : ℕ) (bytes : List ℕ) (place : ℕ) (why : WireWhy) → field_from bytes place ≡ Err why
    → fields_within n bytes place ≡ []
unfolding fields_within
none_within zero bytes place why none = refl
none_within (suc n) bytes place why none = rw none refl

none_at_end : (bytes : List ℕ) (place : ℕ) → length bytes ≤ place → fields_from bytes place ≡ []
unfolding fields_from
none_at_end bytes place end = none_within (length bytes) bytes place Short (nothing_past bytes place end)

-- the fields of the bytes fill them
abbrev pub IsWhole : List ℕ → Type 0
IsWhole bytes = fields_fault bytes ≡ None

ends_at_length : (bytes : List ℕ) → IsWhole bytes → fields_end bytes 0 ≡ length bytes
ends_at_length bytes whole = rw whole at (fault_is_after bytes)

row_of : (bytes : List ℕ) → IsWhole bytes → AreInRow bytes 0 (fields_of bytes) (length bytes)
row_of bytes whole =
    subst (λ (last : ℕ). AreInRow bytes 0 (fields_of bytes) last) (ends_at_length bytes whole) (fields_in_row bytes)

row_of_both : (a b : List ℕ) → IsWhole a → IsWhole b
    → AreInRow (a ++ b) 0 (fields_of a ++ map (moved_field (length a)) (fields_of b)) (length a + length b)
row_of_both a b wa wb =
    row_append (a ++ b) 0 (fields_of a) (map (moved_field (length a)) (fields_of b)) (length a) (length a + length b)
    (row_first_part a b 0 (fields_of a) (length a) (row_of a wa))
    (subst (λ (p : ℕ). AreInRow (a ++ b) p (map (moved_field (length a)) (fields_of b)) (length a + length b))
    (add-zero (length a)) (row_after a b 0 (fields_of b) (length b) (row_of b wb)))

whole_from : (bytes : List ℕ) (fault : Option (ℕ × WireWhy)) → length bytes ≤ fields_end bytes 0
    → MatchOption fault (fields_end bytes 0 ≡ length bytes)
    (λ fault. (fault.0 ≡ fields_end bytes 0) × (fault.0 < length bytes))
    → fault ≡ None
whole_from bytes None far reported = refl
whole_from bytes (Some fault) far reported = absurd (omega (arith, reported.0, reported.1))

pub both_whole : (a b : List ℕ) → IsWhole a → IsWhole b → IsWhole (a ++ b)
both_whole a b wa wb =
    let longest =
    fields_are_longest (a ++ b) (fields_of a ++ map (moved_field (length a)) (fields_of b)) (length a + length b)
    (row_of_both a b wa wb) in
    whole_from (a ++ b) (fields_fault (a ++ b)) (omega (arith, longest.1, length-append a b)) (fault_is_after (a ++ b))

pub values_of_both : (a b : List ℕ) → IsWhole a → IsWhole b → values_of (a ++ b) ≡ values_of a ++ values_of b
unfolding values_of
values_of_both a b wa wb =
    let longest =
    fields_are_longest (a ++ b) (fields_of a ++ map (moved_field (length a)) (fields_of b)) (length a + length b)
    (row_of_both a b wa wb) in
    let end : fields_from (a ++ b) (length a + length b) ≡ [] =
    none_at_end (a ++ b) (length a + length b) (omega (arith, length-append a b)) in
    let fields : fields_of (a ++ b) ≡ fields_of a ++ map (moved_field (length a)) (fields_of b) =
    longest.0 ∙ ap (λ (rest : List FieldAt). (fields_of a ++ map (moved_field (length a)) (fields_of b)) ++ rest) end
    ∙ append-nil (fields_of a ++ map (moved_field (length a)) (fields_of b)) in
    ap (map (value_at (a ++ b))) fields
    ∙ map-append (value_at (a ++ b)) (fields_of a) (map (moved_field (length a)) (fields_of b))
    ∙ ap (λ (xs : List FieldValue). xs ++ map (value_at (a ++ b)) (map (moved_field (length a)) (fields_of b)))
    (values_first_part a b 0 (fields_of a) (length a) (row_of a wa))
    ∙ ap (λ (xs : List FieldValue). map (value_at a) (fields_of a) ++ xs) (values_following a b (fields_of b))

-- ---- and any number of them

no_bytes_whole : IsWhole []
unfolding fields_fault fault_from next_at fields_end end_within
no_bytes_whole = refl

no_bytes_values : values_of [] ≡ []
unfolding values_of fields_of fields_from fields_within
no_bytes_values = refl

pub all_whole : (parts : List (List ℕ)) → AllByRecursion IsWhole parts → IsWhole (concat parts)
all_whole [] whole = no_bytes_whole
all_whole (part ∷ parts) whole = both_whole part (concat parts) whole.0 (all_whole parts whole.1)

pub values_of_all : (parts : List (List ℕ)) → AllByRecursion IsWhole parts
    → values_of (concat parts) ≡ flat_map values_of parts
values_of_all [] whole = no_bytes_values
values_of_all (part ∷ parts) whole =
    values_of_both part (concat parts) whole.0 (all_whole parts whole.1)
    ∙ ap (λ (xs : List FieldValue). values_of part ++ xs) (values_of_all parts whole.1)
