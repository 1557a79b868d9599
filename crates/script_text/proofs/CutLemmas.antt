-- How bytes are cut at a separator.
use Rattle.std.proofs.Common.{◌≡◌, ℕ, ◌+◌, ◌-◌, ◌<◌, ◌≤◌, ◌==◌, Bool, ltb, List, [], ◌∷◌, length, take, drop, Some}
use Rattle.std.proofs.Common.{None, refl, sym, ◌∙◌, ap, arith, inl, inr}
use Rattle.std.proofs.lemmas.Bool.{cases_Bool}
use Rattle.std.proofs.lemmas.Bool.Decides.{nat_tests}
use Rattle.std.proofs.lemmas.Grind.{common_steps}
use Rattle.std.proofs.lemmas.List.Splits.{slice_split-cons_no, slice_split_first, length-slice_split}
use Rattle.std.proofs.lemmas.List.Splits.{join_with_byte-slice_split}
use Rattle.std.specs.List.{slice_split, onto_first, position, position_or_len, join_with_byte}
use Rattle.script_text.specs.Lines.{lines_of, without_empty_last}

-- no element passes
cut_none : (p : ℕ → Bool) (xs : List ℕ) → length xs ≤ position_or_len p xs → slice_split p xs ≡ xs ∷ []
cut_none p [] h = refl
cut_none p (x ∷ xs) h = elim (cases_Bool (p x)) [
  | inl found ↦ let none : length (x ∷ xs) ≤ 0 = rw found at h in absurd (omega arith)
  | inr passed ↦ let more : length (x ∷ xs) ≤ 1 + position_or_len p xs = rw passed at h in
      slice_split-cons_no p x xs passed ∙ ap (onto_first x) (cut_none p xs (omega arith))
]

pub cut_nowhere : (p : ℕ → Bool) (xs : List ℕ) → position p xs ≡ None → slice_split p xs ≡ xs ∷ []
cut_nowhere p xs h = elim (cases_Bool (ltb (position_or_len p xs) (length xs))) [
  | inl found ↦ let e : Some (position_or_len p xs) ≡ None = rw found at h in cc
  | inr passed ↦ cut_none p xs (grind (arith, nat_tests))
]

pub cut_at : (p : ℕ → Bool) (xs : List ℕ) (end : ℕ) → position p xs ≡ Some end
    → slice_split p xs ≡ take end xs ∷ slice_split p (drop (end + 1) xs)
cut_at p xs end h = elim (cases_Bool (ltb (position_or_len p xs) (length xs))) [
  | inl found ↦ let e : Some (position_or_len p xs) ≡ Some end = rw found at h in
      let same : position_or_len p xs ≡ end = cc in
      let within : position_or_len p xs < length xs = grind (arith, nat_tests) in
      rw (← same) (slice_split_first p xs 0 within)
  | inr passed ↦ let e : None ≡ Some end = rw passed at h in cc
]

some_split : (p : ℕ → Bool) (xs : List ℕ) → 0 < length (slice_split p xs)
some_split p xs = let e = length-slice_split p xs in omega arith

more_parts : (part : List ℕ) (parts : List (List ℕ)) → 0 < length parts
    → without_empty_last (part ∷ parts) ≡ part ∷ without_empty_last parts
more_parts part [] h = absurd (omega arith)
more_parts part (next ∷ parts) h = refl

pub lines_none : (text : List ℕ) → length text ≡ 0 → lines_of text ≡ []
unfolding lines_of
lines_none [] h = refl
lines_none (x ∷ xs) h = absurd (omega arith)

pub lines_more : (text line rest : List ℕ)
    → slice_split (λ byte. byte == 10) text ≡ line ∷ slice_split (λ byte. byte == 10) rest
    → lines_of text ≡ line ∷ lines_of rest
unfolding lines_of
lines_more text line rest h =
    ap without_empty_last h
    ∙ more_parts line (slice_split (λ byte. byte == 10) rest) (some_split (λ byte. byte == 10) rest)

last_part : (line : List ℕ) → 0 < length line → without_empty_last (line ∷ []) ≡ line ∷ []
last_part [] h = absurd (omega arith)
last_part (x ∷ xs) h = grind (arith, nat_tests)

-- a text without LF is its one part
join_one : (text line : List ℕ) → slice_split (λ byte. byte == 10) text ≡ line ∷ [] → line ≡ text
join_one text line h = sym (ap (join_with_byte 10) h) ∙ join_with_byte-slice_split 10 text

pub last_line : (text line : List ℕ) → 0 < length text
    → slice_split (λ byte. byte == 10) text ≡ line ∷ [] → lines_of text ≡ line ∷ lines_of []
unfolding lines_of
last_line text line some h =
    let same : line ≡ text = join_one text line h in
    ap without_empty_last h ∙ last_part line (rw same some)

pub take_rest : (n : ℕ) (xs : List ℕ) → take (length xs - n) (drop n xs) ≡ drop n xs
take_rest n xs = grind (arith, common_steps)
