-- The fields from a place on, one step further, and where they end.
use Rattle.std.proofs.Common.{◌≡◌, ℕ, zero, suc, ◌+◌, ◌<◌, ◌≤◌, true, false, leb, inl, inr, List, [], ◌∷◌, ◌++◌, length}
use Rattle.std.proofs.Common.{Ok, Err, refl, sym, ap, subst, ◌∙◌, arith}
use Rattle.std.specs.Prelude.{drop, IfSome, MatchOption}
use Rattle.std.proofs.lemmas.Bool.{le-leb, lt-leb, cases_lt}
use Rattle.std.proofs.lemmas.List.{drop_all}
use Rattle.pb_wire.specs.declared.reader.Body.{Body}
use Rattle.pb_wire.specs.declared.reader.Body.TheVariants.{Varint as body_varint, Eight as body_eight}
use Rattle.pb_wire.specs.declared.reader.Body.TheVariants.{Bytes as body_bytes, Four as body_four}
use Rattle.pb_wire.specs.declared.reader.Next.{Next}
use Rattle.pb_wire.specs.declared.reader.Next.TheVariants.{End, Field, Refused}
use Rattle.pb_wire.specs.declared.reader.WireWhy.{WireWhy}
use Rattle.pb_wire.specs.declared.reader.WireWhy.TheVariants.{Short}
use Rattle.pb_wire.specs.Varint.{varint_at}
use Rattle.pb_wire.specs.Fields.{FieldAt, varint_from, tag_from, field_from, next_at, next_place, fields_within}
use Rattle.pb_wire.specs.Fields.{end_within, fields_from, fields_end, fault_in, fault_from, fields_of, fields_fault}
use Rattle.pb_wire.specs.Fields.{Cursor, LiesWithin, Advances}
use Rattle.pb_wire.specs.Cause.{IsCause}
use Rattle.pb_wire.specs.InRow.{EndsAt, IsFieldAt, AreInRow}
use Rattle.pb_wire.proofs.FieldLaws.{cases_read, field_found, field_at_is_read}
use Rattle.pb_wire.proofs.CauseLaws.{field_cause}

pub nothing_past : (bytes : List ℕ) (place : ℕ) → length bytes ≤ place → field_from bytes place ≡ Err Short
unfolding field_from tag_from varint_from varint_at
nothing_past bytes place end = rw (drop_all place bytes end) refl

lies_within : (size after : ℕ) (body : Body) → after ≤ size → EndsAt after body → LiesWithin size body
lies_within size after (body_varint value) within ends = tt
lies_within size after (body_eight value) within ends = tt
lies_within size after (body_four value) within ends = tt
lies_within size after (body_bytes start last) within ends = let is = ends.1 in (ends.0, omega arith)

pub end_of_all : (bytes : List ℕ) → next_at bytes (length bytes) ≡ End
unfolding next_at
end_of_all bytes = let test : leb (length bytes) (length bytes) ≡ true = le-leb _ _ (omega arith) in rw test refl

-- at a field

pub next_at_field : (bytes : List ℕ) (place : ℕ) (read : ℕ × Body × ℕ) → field_from bytes place ≡ Ok read
    → next_at bytes place ≡ Field read.0 read.1 place
unfolding next_at
next_at_field bytes place read e =
    let found = field_found bytes place read e in
    let rises = found.rises in
    let within = found.within in
    let inside : leb (length bytes) place ≡ false = lt-leb _ _ (omega arith) in
    rw (inside, e) refl

pub next_place_field : (bytes : List ℕ) (place : ℕ) (read : ℕ × Body × ℕ) → field_from bytes place ≡ Ok read
    → next_place bytes place ≡ read.2
unfolding next_place
next_place_field bytes place read e = rw e refl

next_place_none : (bytes : List ℕ) (place : ℕ) (why : WireWhy) → field_from bytes place ≡ Err why
    → next_place bytes place ≡ place
unfolding next_place
next_place_none bytes place why e = rw e refl

-- at no field, however many are counted

none_within : (n : ℕ) (bytes : List ℕ) (place : ℕ) (why : WireWhy) → field_from bytes place ≡ Err why
    → (fields_within n bytes place ≡ []) × (end_within n bytes place ≡ place)
unfolding fields_within end_within
none_within zero bytes place why e = (refl, refl)
none_within (suc n) bytes place why e =
    let stays = next_place_none bytes place why e in
    (rw e refl, rw (stays) (none_within n bytes place why e).1)

some_within : (n : ℕ) (bytes : List ℕ) (place : ℕ) (read : ℕ × Body × ℕ) → field_from bytes place ≡ Ok read
    → (fields_within (suc n) bytes place
    ≡ record { number = read.0; body = read.1; place = place } ∷ fields_within n bytes read.2)
    × (end_within (suc n) bytes place ≡ end_within n bytes read.2)
unfolding fields_within end_within
some_within n bytes place read e = (rw e refl, rw (next_place_field bytes place read e) refl)

-- any count that is enough gives them all

enough : (n m : ℕ) (bytes : List ℕ) (place : ℕ) → length bytes ≤ n + place → length bytes ≤ m + place
    → (fields_within n bytes place ≡ fields_within m bytes place)
    × (end_within n bytes place ≡ end_within m bytes place)
enough zero m bytes place h k =
    let none = nothing_past bytes place (omega arith) in
    let left = none_within zero bytes place Short none in
    let right = none_within m bytes place Short none in
    (left.0 ∙ sym right.0, left.1 ∙ sym right.1)
enough (suc n) zero bytes place h k =
    let none = nothing_past bytes place (omega arith) in
    let left = none_within (suc n) bytes place Short none in
    let right = none_within zero bytes place Short none in
    (left.0 ∙ sym right.0, left.1 ∙ sym right.1)
enough (suc n) (suc m) bytes place h k =
    elim (cases_read (field_from bytes place)) [
      | inl found ↦
          (let rises = (field_found bytes place found.0 found.1).rises in
          let left = some_within n bytes place found.0 found.1 in
          let right = some_within m bytes place found.0 found.1 in
          let more = enough n m bytes found.0.2 (omega arith) (omega arith) in (
            left.0
                ∙ ap
                (λ (fields : List FieldAt). record { number = found.0.0; body = found.0.1; place = place } ∷ fields)
                more.0
                ∙ sym right.0,
            left.1 ∙ more.1 ∙ sym right.1,
          ))
      | inr none ↦
          (let left = none_within (suc n) bytes place none.0 none.1 in
          let right = none_within (suc m) bytes place none.0 none.1 in
          (left.0 ∙ sym right.0, left.1 ∙ sym right.1))
    ]

pub from_field : (bytes : List ℕ) (place : ℕ) (read : ℕ × Body × ℕ) → field_from bytes place ≡ Ok read
    → (fields_from bytes place ≡ record { number = read.0; body = read.1; place = place } ∷ fields_from bytes read.2)
    × (fields_end bytes place ≡ fields_end bytes read.2)
unfolding fields_from fields_end
from_field bytes place read e =
    let one = enough (length bytes) (suc (length bytes)) bytes place (omega arith) (omega arith) in
    let step = some_within (length bytes) bytes place read e in
    (one.0 ∙ step.0, one.1 ∙ step.1)

pub fault_from_field : (bytes : List ℕ) (place : ℕ) (read : ℕ × Body × ℕ) → field_from bytes place ≡ Ok read
    → fault_from bytes place ≡ fault_from bytes read.2
unfolding fault_from
fault_from_field bytes place read e = ap (λ (n : ℕ). fault_in (next_at bytes n)) (from_field bytes place read e).1

pub from_none : (bytes : List ℕ) (place : ℕ) (why : WireWhy) → field_from bytes place ≡ Err why
    → (fields_from bytes place ≡ []) × (fields_end bytes place ≡ place)
unfolding fields_from fields_end
from_none bytes place why e = none_within (length bytes) bytes place why e

-- what a reader at a place answers

abbrev cursor : List ℕ → ℕ → Cursor
cursor bytes place = record { bytes = bytes; place = place }

-- what an answer and the place to go on at say together
pub record IsStep (bytes : List ℕ) (place : ℕ) (next : Next) (after : ℕ) : Type 0 where
  pub answer : next ≡ next_at bytes place
  pub moves : after ≡ next_place bytes place
  pub within : after ≤ length bytes
  pub steps : Advances (cursor bytes place) next (cursor bytes after)

pub reads_end : (bytes : List ℕ) (place : ℕ) → place ≡ length bytes → IsStep bytes place End place
unfolding next_at fault_from
reads_end bytes place end =
    let none = nothing_past bytes place (omega arith) in
    let stop = from_none bytes place Short none in
    let test : leb (length bytes) place ≡ true = le-leb _ _ (omega arith) in
    record {
      answer = rw test refl;
      moves = sym (next_place_none bytes place Short none);
      within = omega arith;
      steps = (record { unchanged = refl; fields = stop.0; fault_is = rw (stop.1, test) refl }, end);
    }

pub reads_field : (bytes : List ℕ) (place number : ℕ) (body : Body) (after : ℕ)
    → Ok (number, body, after) ≡ field_from bytes place → IsStep bytes place (Field number body place) after
reads_field bytes place number body after e =
    let read : ℕ × Body × ℕ = (number, body, after) in
    let is = field_found bytes place read (sym e) in
    let step = from_field bytes place read (sym e) in
    record {
      answer = sym (next_at_field bytes place read (sym e));
      moves = sym (next_place_field bytes place read (sym e));
      within = is.within;
      steps = record {
        number = is.number;
        body = lies_within (length bytes) after body is.within is.ends;
        place = refl;
        rises = is.rises;
        within = is.within;
        fields = step.0;
        fault = fault_from_field bytes place read (sym e);
      };
    }

pub reads_fault : (bytes : List ℕ) (place : ℕ) (why : WireWhy) → place < length bytes → Err why ≡ field_from bytes place
    → IsStep bytes place (Refused place why) place
unfolding next_at fault_from
reads_fault bytes place why inside e =
    let none = sym e in
    let stop = from_none bytes place why none in
    let test : leb (length bytes) place ≡ false = lt-leb _ _ inside in
    record {
      answer = rw (test, none) refl;
      moves = sym (next_place_none bytes place why none);
      within = omega arith;
      steps = (
        record { unchanged = refl; fields = stop.0; fault_is = rw (stop.1, test, none) refl },
        refl,
        inside,
        field_cause bytes place why none,
      );
    }

-- where they end

end_rises : (n : ℕ) (bytes : List ℕ) (place : ℕ) → place ≤ end_within n bytes place
unfolding end_within
end_rises zero bytes place = omega arith
end_rises (suc n) bytes place =
    elim (cases_read (field_from bytes place)) [
      | inl found ↦
          (let rises = (field_found bytes place found.0 found.1).rises in
          let is = next_place_field bytes place found.0 found.1 in
          let more = end_rises n bytes (next_place bytes place) in
          omega arith)
      | inr none ↦
          (let is = next_place_none bytes place none.0 none.1 in
          let more = end_rises n bytes (next_place bytes place) in
          omega arith)
    ]

end_stays : (n : ℕ) (bytes : List ℕ) (place : ℕ) → place ≤ length bytes → end_within n bytes place ≤ length bytes
unfolding end_within
end_stays zero bytes place h = h
end_stays (suc n) bytes place h =
    elim (cases_read (field_from bytes place)) [
      | inl found ↦
          (let within = (field_found bytes place found.0 found.1).within in
          let is = next_place_field bytes place found.0 found.1 in
          end_stays n bytes (next_place bytes place) (omega arith))
      | inr none ↦
          (let is = next_place_none bytes place none.0 none.1 in
          end_stays n bytes (next_place bytes place) (omega arith))
    ]

none_at_end : (n : ℕ) (bytes : List ℕ) (place : ℕ) → length bytes ≤ n + place
    → (why : WireWhy) × (field_from bytes (end_within n bytes place) ≡ Err why)
unfolding end_within
none_at_end zero bytes place h = (Short, nothing_past bytes place (omega arith))
none_at_end (suc n) bytes place h =
    elim (cases_read (field_from bytes place)) [
      | inl found ↦
          (let rises = (field_found bytes place found.0 found.1).rises in
          let is = next_place_field bytes place found.0 found.1 in
          none_at_end n bytes (next_place bytes place) (omega arith))
      | inr none ↦
          (let is : end_within (suc n) bytes place ≡ place = (none_within (suc n) bytes place none.0 none.1).1 in
          (none.0, ap (field_from bytes) is ∙ none.1))
    ]

-- the laws

in_row_within : (n : ℕ) (bytes : List ℕ) (place : ℕ)
    → AreInRow bytes place (fields_within n bytes place) (end_within n bytes place)
unfolding fields_within end_within
in_row_within zero bytes place = refl
in_row_within (suc n) bytes place =
    elim (cases_read (field_from bytes place)) [
      | inl found ↦
          (let read : ℕ × Body × ℕ = found.0 in
          let is = field_found bytes place read found.1 in
          let step = some_within n bytes place read found.1 in
          let field : FieldAt = record { number = read.0; body = read.1; place = place } in
          let holds : IsFieldAt bytes field read.2 =
          record { within = is.within; spelled = is.spelled; ends = is.ends } in
          let row : AreInRow bytes place (field ∷ fields_within n bytes read.2) (end_within n bytes read.2) =
          (refl, read.2, holds, in_row_within n bytes read.2) in
          subst (λ (fields : List FieldAt). AreInRow bytes place fields (end_within (suc n) bytes place)) (sym step.0)
          (subst (λ (last : ℕ). AreInRow bytes place (field ∷ fields_within n bytes read.2) last) (sym step.1) row))
      | inr none ↦
          (let stop = none_within (suc n) bytes place none.0 none.1 in
          subst (λ (fields : List FieldAt). AreInRow bytes place fields (end_within (suc n) bytes place)) (sym stop.0)
          (sym stop.1))
    ]

pub fields_in_row : (bytes : List ℕ) → AreInRow bytes 0 (fields_of bytes) (fields_end bytes 0)
unfolding fields_of fields_from fields_end
fields_in_row bytes = in_row_within (length bytes) bytes 0

row_is_first : (bytes : List ℕ) (place : ℕ) (fields : List FieldAt) (last : ℕ) → AreInRow bytes place fields last
    → (fields_from bytes place ≡ fields ++ fields_from bytes last) × (fields_end bytes place ≡ fields_end bytes last)
row_is_first bytes place [] last row = (ap (fields_from bytes) row, ap (fields_end bytes) row)
row_is_first bytes place (field ∷ fields) last row =
    let after : ℕ = row.1 in
    let more = row_is_first bytes after fields last row.3 in
    let read = field_at_is_read bytes field after row.2 in
    let step = from_field bytes field.place (field.number, field.body, after) read.0 in (
      ap (fields_from bytes) (sym row.0) ∙ step.0 ∙ ap (λ (rest : List FieldAt). field ∷ rest) more.0,
      ap (fields_end bytes) (sym row.0) ∙ step.1 ∙ more.1,
    )

pub fields_are_longest : (bytes : List ℕ) (fields : List FieldAt) (last : ℕ) → AreInRow bytes 0 fields last
    → (fields_of bytes ≡ fields ++ fields_from bytes last) × (last ≤ fields_end bytes 0)
unfolding fields_of fields_end
fields_are_longest bytes fields last row =
    let first = row_is_first bytes 0 fields last row in
    let rises = end_rises (length bytes) bytes last in
    let same : fields_end bytes 0 ≡ fields_end bytes last = first.1 in
    (first.0, omega arith)

fault_at : (bytes : List ℕ) (last : ℕ) (why : WireWhy) → last ≤ length bytes → field_from bytes last ≡ Err why
    → MatchOption (fault_in (next_at bytes last)) (last ≡ length bytes)
    (λ fault. (fault.0 ≡ last) × (fault.0 < length bytes))
unfolding next_at
fault_at bytes last why within none =
    elim (cases_lt last (length bytes)) [
      | inl inside ↦ (let test : leb (length bytes) last ≡ false = lt-leb _ _ inside in rw (test, none) (refl, inside))
      | inr end ↦ (let test : leb (length bytes) last ≡ true = le-leb _ _ end in rw test (omega arith))
    ]

pub fault_is_after : (bytes : List ℕ)
    → MatchOption (fields_fault bytes) (fields_end bytes 0 ≡ length bytes)
    (λ fault. (fault.0 ≡ fields_end bytes 0) × (fault.0 < length bytes))
unfolding fields_fault fault_from fields_end
fault_is_after bytes =
    let none = none_at_end (length bytes) bytes 0 (omega arith) in
    fault_at bytes (end_within (length bytes) bytes 0) none.0 (end_stays (length bytes) bytes 0 (omega arith)) none.1

cause_at : (bytes : List ℕ) (last : ℕ) (why : WireWhy) → field_from bytes last ≡ Err why
    → IfSome (fault_in (next_at bytes last)) (λ fault. IsCause (drop fault.0 bytes) fault.1)
unfolding next_at
cause_at bytes last why none =
    elim (cases_lt last (length bytes)) [
      | inl inside ↦
          (let test : leb (length bytes) last ≡ false = lt-leb _ _ inside in
          rw (test, none) (field_cause bytes last why none))
      | inr end ↦ (let test : leb (length bytes) last ≡ true = le-leb _ _ end in rw test tt)
    ]

pub fault_has_cause : (bytes : List ℕ) → IfSome (fields_fault bytes) (λ fault. IsCause (drop fault.0 bytes) fault.1)
unfolding fields_fault fault_from fields_end
fault_has_cause bytes =
    let none = none_at_end (length bytes) bytes 0 (omega arith) in
    cause_at bytes (end_within (length bytes) bytes 0) none.0 none.1
