-- Patterns with `%`: the test is the relation, and a part may be taken at its first place.
use Rattle.std.proofs.Common.{◌≡◌, ℕ, zero, suc, ◌+◌, ◌-◌, ◌<◌, ◌≤◌, ◌==◌, Bool, true, false, cond, ◌&&◌, ◌||◌, List}
use Rattle.std.proofs.Common.{[], ◌∷◌, ◌++◌, length, take, drop, slice_index, refl, sym, ap, ap₂, ◌∙◌, subst, inl, inr}
use Rattle.std.proofs.Common.{⊎_elim, arith, append_assoc, length-append, length-take-le, length-drop, true≢false}
use Rattle.std.specs.Cmp.{both_ways}
use Rattle.std.specs.List.{list_any}
use Rattle.std.specs.Str.{bytes_eq}
use Rattle.std.proofs.lemmas.Bool.{cases_Bool, cases_lt, and_parts, eqb-true, eq-eqb, false_from_ne_true}
use Rattle.std.proofs.lemmas.List.{append-nil, append_cancel_left, take-append-drop, drop-drop, drop_more}
use Rattle.std.proofs.Math.Seq.{drop-append_seam, take-append_seam, take-length}
use Rattle.std.proofs.lemmas.Slice.Eq.{bytes_eq-Decides}
use Rattle.memchr.specs.Find.{Nowhere, NoneBefore, Passes, is_byte, OccursAt}
use Rattle.memchr.proofs.lemmas.MatchLemmas.{OccursAt-from_part, OccursAt-split}
use Rattle.pred_eval.specs.Wild.{percent, Parts, parts_of, IsJoined, IsWild, tails, is_nothing, is_byte_before, is_wild}
use Rattle.pred_eval.specs.Wild.{WildTextsAreJoined}

-- ---- what is left of a text at some place

-- what is left at some place passes the test
pub record PassesSomewhere (test : List ℕ → Bool) (text : List ℕ) : Type 0 where
  pub front : List ℕ
  pub rest : List ℕ
  pub parts : text ≡ front ++ rest
  pub passes : test rest ≡ true

or_parts : (a b : Bool) → (a || b) ≡ true → b ≡ false → a ≡ true
or_parts true b e f = refl
or_parts false b e f = absurd (true≢false (sym e ∙ f))

pub somewhere : (test : List ℕ → Bool) (text : List ℕ) → list_any test (tails text) ≡ true → PassesSomewhere test text
somewhere test [] e = record { front = []; rest = []; parts = refl; passes = or_parts (test []) false e refl }
somewhere test (byte ∷ text) e = elim (cases_Bool (list_any test (tails text))) [
  | inl later ↦
      let s = somewhere test text later in
      record { front = byte ∷ s.front; rest = s.rest; parts = ap (λ t. byte ∷ t) s.parts; passes = s.passes }
  | inr none ↦ record {
    front = [];
    rest = byte ∷ text;
    parts = refl;
    passes = or_parts (test (byte ∷ text)) (list_any test (tails text)) e none;
  }
]

or_first : (a b : Bool) → a ≡ true → (a || b) ≡ true
or_first true b e = refl
or_first false b e = absurd (true≢false (sym e))

or_second : (a b : Bool) → b ≡ true → (a || b) ≡ true
or_second true b e = refl
or_second false b e = e

any_here : (test : List ℕ → Bool) (rest : List ℕ) → test rest ≡ true → list_any test (tails rest) ≡ true
any_here test [] e = or_first (test []) false e
any_here test (byte ∷ rest) e = or_first (test (byte ∷ rest)) (list_any test (tails rest)) e

any_following : (test : List ℕ → Bool) (front rest : List ℕ) → test rest ≡ true
    → list_any test (tails (front ++ rest)) ≡ true
any_following test [] rest e = any_here test rest e
any_following test (byte ∷ front) rest e =
    or_second (test (byte ∷ (front ++ rest))) (list_any test (tails (front ++ rest))) (any_following test front rest e)

pub any_tail : (test : List ℕ → Bool) (text : List ℕ) → PassesSomewhere test text → list_any test (tails text) ≡ true
any_tail test text s =
    subst (λ t. list_any test (tails t) ≡ true) (sym s.parts) (any_following test s.front s.rest s.passes)

-- ---- the test is the relation

nothing_is_nil : (text : List ℕ) → is_nothing text ≡ true → text ≡ []
nothing_is_nil [] e = refl
nothing_is_nil (byte ∷ text) e = absurd (true≢false (sym e))

-- the byte, and what is left after it
pub byte_before : (byte : ℕ) (test : List ℕ → Bool) (text : List ℕ) → is_byte_before byte test text ≡ true
    → (rest : List ℕ) × (text ≡ byte ∷ rest) × (test rest ≡ true)
byte_before byte test [] e = absurd (true≢false (sym e))
byte_before byte test (first ∷ text) e =
    let both = and_parts (first == byte) (test text) e in
    (text, ap (λ b. b ∷ text) (eqb-true first byte both.0), both.1)

before_byte : (byte : ℕ) (test : List ℕ → Bool) (rest : List ℕ) → is_byte_before byte test (byte ∷ rest) ≡ test rest
before_byte byte test rest = ap (λ b. b && test rest) (eq-eqb byte byte refl)

joined_more : (byte : ℕ) (first : List ℕ) (later : List (List ℕ)) (text : List ℕ) → IsJoined first later text
    → IsJoined (byte ∷ first) later (byte ∷ text)
joined_more byte first [] text e = ap (λ t. byte ∷ t) e
joined_more byte first (next ∷ later) text j = (j.0, j.1, ap (λ t. byte ∷ t) j.2, j.3)

joined_less : (byte : ℕ) (first : List ℕ) (later : List (List ℕ)) (text : List ℕ) → IsJoined (byte ∷ first) later text
    → (rest : List ℕ) × (text ≡ byte ∷ rest) × IsJoined first later rest
joined_less byte first [] text e = (first, e, refl)
joined_less byte first (next ∷ later) text j = (first ++ (j.0 ++ j.1), j.2, (j.0, j.1, refl, j.3))

abbrev Joins : Parts → List ℕ → Type 0
Joins parts text = IsJoined parts.first parts.later text

module _ (byte : ℕ) (pattern : List ℕ) where
  abbrev more : Bool → Parts
  more is_any =
      cond is_any (record { first = []; later = (parts_of pattern).first ∷ (parts_of pattern).later })
      (record { first = byte ∷ (parts_of pattern).first; later = (parts_of pattern).later })

  abbrev step : Bool → List ℕ → Bool
  step is_any text = cond is_any (list_any (is_wild pattern) (tails text)) (is_byte_before byte (is_wild pattern) text)

  step_forth : ((text : List ℕ) → is_wild pattern text ≡ true → IsWild pattern text) → (is_any : Bool) (text : List ℕ)
      → step is_any text ≡ true → Joins (more is_any) text
  step_forth ih true text e =
      let s = somewhere (is_wild pattern) text e in (s.front, s.rest, s.parts, ih s.rest s.passes)
  step_forth ih false text e =
      let b = byte_before byte (is_wild pattern) text e in
      subst (IsJoined (byte ∷ (parts_of pattern).first) (parts_of pattern).later) (sym b.1)
      (joined_more byte (parts_of pattern).first (parts_of pattern).later b.0 (ih b.0 b.2))

  step_back : ((text : List ℕ) → IsWild pattern text → is_wild pattern text ≡ true) → (is_any : Bool) (text : List ℕ)
      → Joins (more is_any) text → step is_any text ≡ true
  step_back ih true text j =
      any_tail (is_wild pattern) text (record { front = j.0; rest = j.1; parts = j.2; passes = ih j.1 j.3 })
  step_back ih false text j =
      let b = joined_less byte (parts_of pattern).first (parts_of pattern).later text j in
      subst (λ t. is_byte_before byte (is_wild pattern) t ≡ true) (sym b.1)
      (before_byte byte (is_wild pattern) b.0 ∙ ih b.0 b.2)

wild_forth : (pattern text : List ℕ) → is_wild pattern text ≡ true → IsWild pattern text
wild_forth [] text e = nothing_is_nil text e
wild_forth (byte ∷ pattern) text e = step_forth byte pattern (wild_forth pattern) (byte == percent) text e

wild_back : (pattern text : List ℕ) → IsWild pattern text → is_wild pattern text ≡ true
wild_back [] text e = ap is_nothing e
wild_back (byte ∷ pattern) text j = step_back byte pattern (wild_back pattern) (byte == percent) text j

pub wild_is_joined : WildTextsAreJoined
wild_is_joined pattern text = (wild_forth pattern text, wild_back pattern text)

-- ---- a part with no `%`

pub data IsPlain : List ℕ → Type 0 where
  nothing : IsPlain []
  one_more : (byte : ℕ) (part : List ℕ) → (byte == percent) ≡ false → IsPlain part → IsPlain (byte ∷ part)

byte_is_itself : (byte : ℕ) (pattern : List ℕ) → (byte == percent) ≡ false → (text : List ℕ)
    → is_wild (byte ∷ pattern) text ≡ is_byte_before byte (is_wild pattern) text
byte_is_itself byte pattern e text = ap (λ b. step byte pattern b text) e

-- a text that matches begins with the plain part
pub plain_front : (part : List ℕ) → IsPlain part → (pattern text : List ℕ) → is_wild (part ++ pattern) text ≡ true
    → (rest : List ℕ) × (text ≡ part ++ rest) × (is_wild pattern rest ≡ true)
plain_front [] plain pattern text e = (text, refl, e)
plain_front (byte ∷ part) (one_more _ _ other plain) pattern text e =
    let b =
    byte_before byte (is_wild (part ++ pattern)) text (sym (byte_is_itself byte (part ++ pattern) other text) ∙ e) in
    let r = plain_front part plain pattern b.0 b.2 in
    (r.0, b.1 ∙ ap (λ t. byte ∷ t) r.1, r.2)

pub following_plain : (part : List ℕ) → IsPlain part → (pattern rest : List ℕ) → is_wild pattern rest ≡ true
    → is_wild (part ++ pattern) (part ++ rest) ≡ true
following_plain [] plain pattern rest e = e
following_plain (byte ∷ part) (one_more _ _ other plain) pattern rest e =
    byte_is_itself byte (part ++ pattern) other (byte ∷ (part ++ rest))
    ∙ before_byte byte (is_wild (part ++ pattern)) (part ++ rest)
    ∙ following_plain part plain pattern rest e

-- ---- what the code does with a part

pub plain_is_equal : (part : List ℕ) → IsPlain part → (text : List ℕ) → bytes_eq part text ≡ is_wild part text
plain_is_equal part plain text =
    let d = bytes_eq-Decides part text in
    both_ways (bytes_eq part text) (is_wild part text)
    (λ same. subst (λ p. is_wild p text ≡ true) (append-nil part)
    (subst (λ t. is_wild (part ++ []) t ≡ true) (append-nil part ∙ d.0 same) (following_plain part plain [] [] refl)))
    (λ wild.
    let r = plain_front part plain [] text (subst (λ p. is_wild p text ≡ true) (sym (append-nil part)) wild) in
    d.1 (sym (r.1 ∙ ap (λ t. part ++ t) (nothing_is_nil r.0 r.2) ∙ append-nil part)))

pub front_taken : (part : List ℕ) → IsPlain part → (pattern rest : List ℕ)
    → is_wild pattern rest ≡ is_wild (part ++ pattern) (part ++ rest)
front_taken part plain pattern rest =
    both_ways (is_wild pattern rest) (is_wild (part ++ pattern) (part ++ rest))
    (following_plain part plain pattern rest)
    (λ e.
    let r = plain_front part plain pattern (part ++ rest) e in
    subst (λ t. is_wild pattern t ≡ true) (append_cancel_left part r.0 rest (sym r.1)) r.2)

pub no_front : (part : List ℕ) → IsPlain part → (pattern text : List ℕ) → ((rest : List ℕ) → text ≡ part ++ rest → ⊥)
    → is_wild (part ++ pattern) text ≡ false
no_front part plain pattern text none = false_from_ne_true (is_wild (part ++ pattern) text) (λ e.
    let r = plain_front part plain pattern text e in none r.0 r.1)

-- the text ends with a plain part
pub plain_end : (part : List ℕ) → IsPlain part → (text : List ℕ) (answer : Bool) →
    (answer ≡ true → (front : List ℕ) × (text ≡ front ++ part)) →
    ((front : List ℕ) → text ≡ front ++ part → answer ≡ true) → answer ≡ is_wild (percent ∷ part) text
plain_end part plain text answer ends ended =
    both_ways answer (is_wild (percent ∷ part) text)
    (λ yes. any_tail (is_wild part) text (record {
      front = (ends yes).0;
      rest = part;
      parts = (ends yes).1;
      passes = sym (plain_is_equal part plain part) ∙ (bytes_eq-Decides part part).1 refl;
    }))
    (λ e.
    let s = somewhere (is_wild part) text e in
    ended s.front (s.parts
    ∙ ap (λ t. s.front ++ t) (sym ((bytes_eq-Decides part s.rest).0 (plain_is_equal part plain s.rest ∙ s.passes)))))

occurs_following : (front part rest text : List ℕ) → text ≡ front ++ (part ++ rest) → OccursAt text part (length front)
occurs_following front part rest text e =
    subst (λ t. OccursAt t part (length front)) (sym e)
    (OccursAt-from_part (front ++ (part ++ rest)) part (length front)
    (omega (arith, length-append front (part ++ rest), length-append part rest))
    (ap (take (length part)) (drop-append_seam front (part ++ rest)) ∙ take-append_seam part rest))

-- a text that matches after a gap has the part at some place
has_part : (part : List ℕ) → IsPlain part → (pattern text : List ℕ) →
    is_wild (percent ∷ (part ++ pattern)) text ≡ true →
    (front : List ℕ) × (rest : List ℕ) × (text ≡ front ++ (part ++ rest)) × (is_wild pattern rest ≡ true)
has_part part plain pattern text e =
    let s = somewhere (is_wild (part ++ pattern)) text e in
    let r = plain_front part plain pattern s.rest s.passes in
    (s.front, r.0, s.parts ∙ ap (λ t. s.front ++ t) r.1, r.2)

pub no_place : (part : List ℕ) → IsPlain part → (pattern text : List ℕ)
    → ((k : ℕ) → k < length text + 1 → OccursAt text part k → ⊥) → is_wild (percent ∷ (part ++ pattern)) text ≡ false
no_place part plain pattern text none = false_from_ne_true (is_wild (percent ∷ (part ++ pattern)) text) (λ e.
    let h = has_part part plain pattern text e in
    none (length h.0) (omega (arith, ap length h.2, length-append h.0 (part ++ h.1)))
    (occurs_following h.0 part h.1 text h.2))

drop_front : (front rest : List ℕ) (n : ℕ) → length front ≡ n → drop n (front ++ rest) ≡ rest
drop_front front rest n e = subst (λ k. drop k (front ++ rest) ≡ rest) e (drop-append_seam front rest)

-- Nothing is lost where the part is taken at its first place: what is left there ends in what is left at any other.
pub first_place : (part : List ℕ) → IsPlain part → (pattern text : List ℕ) (place : ℕ) → OccursAt text part place →
    ((k : ℕ) → k < place → OccursAt text part k → ⊥) →
    is_wild (percent ∷ pattern) (drop (place + length part) text)
    ≡ is_wild (percent ∷ (part ++ (percent ∷ pattern))) text
first_place part plain pattern text place occurs before =
    let later = drop (place + length part) text in
    both_ways (is_wild (percent ∷ pattern) later) (is_wild (percent ∷ (part ++ (percent ∷ pattern))) text)
    (λ e. any_tail (is_wild (part ++ (percent ∷ pattern))) text (record {
      front = take place text;
      rest = part ++ later;
      parts =
          sym (take-append-drop place text) ∙ ap (λ t. take place text ++ t) (OccursAt-split text part place occurs);
      passes = following_plain part plain (percent ∷ pattern) later e;
    }))
    (λ e.
    let h = has_part part plain (percent ∷ pattern) text e in
    let from : place ≤ length h.0 =
    ⊎_elim (λ (lt : length h.0 < place). absurd (before (length h.0) lt (occurs_following h.0 part h.1 text h.2)))
    (λ (ge : place ≤ length h.0). ge) (cases_lt (length h.0) place) in
    let s = somewhere (is_wild pattern) h.1 h.3 in
    let all : text ≡ (h.0 ++ part) ++ h.1 = h.2 ∙ sym (append_assoc h.0 part h.1) in
    let gap = length h.0 - place in
    let left : drop gap later ≡ h.1
    = drop-drop gap (place + length part) text
    ∙ ap (drop (place + length part + gap)) all
    ∙ drop_front (h.0 ++ part) h.1 (place + length part + gap) (omega (arith, length-append h.0 part)) in
    any_tail (is_wild pattern) later (record {
      front = take gap later ++ s.front;
      rest = s.rest;
      parts =
          sym (take-append-drop gap later) ∙ ap (λ t. take gap later ++ t) (left ∙ s.parts)
          ∙ sym (append_assoc (take gap later) s.front s.rest);
      passes = s.passes;
    }))

-- ---- the same, as the code has it

plain_before : (pattern : List ℕ) (at : ℕ) → at ≤ length pattern
    → ((k : ℕ) → k < at → (slice_index pattern k == percent) ≡ true → ⊥) → IsPlain (take at pattern)
plain_before pattern zero le none = nothing
plain_before [] (suc at) le none = absurd (omega arith)
plain_before (byte ∷ pattern) (suc at) le none =
    one_more byte (take at pattern) (false_from_ne_true (byte == percent) (none 0 (omega arith)))
    (plain_before pattern at (omega arith) (λ k lt. none (suc k) (omega arith)))

pub plain_whole : (pattern : List ℕ) → Nowhere (Passes (is_byte percent) pattern) 0 (length pattern) → IsPlain pattern
plain_whole pattern none =
    subst IsPlain (take-length pattern)
    (plain_before pattern (length pattern) (omega arith) (λ k lt. none k (omega arith) lt))

following : (n : ℕ) (bytes : List ℕ) → take (length bytes - n) (drop n bytes) ≡ drop n bytes
following n bytes = ap (λ k. take k (drop n bytes)) (sym (length-drop n bytes)) ∙ take-length (drop n bytes)

abbrev pub part_following : ℕ → ℕ → List ℕ → List ℕ
part_following m n bytes = let found = take (length bytes - m) (drop m bytes) in take (length found - n) (drop n found)

following_both : (m n : ℕ) (bytes : List ℕ) → part_following m n bytes ≡ drop (m + n) bytes
following_both m n bytes =
    ap (λ found. take (length found - n) (drop n found)) (following m bytes) ∙ following n (drop m bytes)
    ∙ drop-drop n m bytes

module _ (pattern : List ℕ) (at : ℕ) (first : NoneBefore (Passes (is_byte percent) pattern) 0 (length pattern) at)
    (here : Passes (is_byte percent) pattern at) where
  plain : IsPlain (take at pattern)
  plain = plain_before pattern at (omega (arith, first.high)) (λ k lt. first.before k (omega arith) lt)

  whole : take at pattern ++ (percent ∷ drop (at + 1) pattern) ≡ pattern
  whole =
      ap (λ t. take at pattern ++ t)
      (ap (λ b. b ∷ drop (at + 1) pattern) (sym (eqb-true (slice_index pattern at) percent here))
      ∙ sym (drop_more pattern at 0 first.high))
      ∙ take-append-drop at pattern

  pub begins_so : (text rest : List ℕ) → text ≡ take at pattern ++ rest
      → is_wild (percent ∷ take (length pattern - (at + 1)) (drop (at + 1) pattern)) rest ≡ is_wild pattern text
  begins_so text rest e =
      ap (λ p. is_wild (percent ∷ p) rest) (following (at + 1) pattern)
      ∙ front_taken (take at pattern) plain (percent ∷ drop (at + 1) pattern) rest
      ∙ ap (λ p. is_wild p (take at pattern ++ rest)) whole ∙ ap (is_wild pattern) (sym e)

  pub begins_otherwise : (text : List ℕ) → ((rest : List ℕ) → text ≡ take at pattern ++ rest → ⊥)
      → false ≡ is_wild pattern text
  begins_otherwise text none =
      sym (no_front (take at pattern) plain (percent ∷ drop (at + 1) pattern) text none)
      ∙ ap (λ p. is_wild p text) whole

  length_of_part : length (take at pattern) ≡ at
  length_of_part = length-take-le at pattern (omega (arith, first.high))

  goes_on_from : (text : List ℕ) (place : ℕ) → NoneBefore (OccursAt text (take at pattern)) 0 (length text + 1) place →
      OccursAt text (take at pattern) place →
      is_wild (percent ∷ drop (at + 1) pattern) (drop (place + at) text) ≡ is_wild (percent ∷ pattern) text
  goes_on_from text place found occurs =
      ap (λ n. is_wild (percent ∷ drop (at + 1) pattern) (drop (place + n) text)) (sym length_of_part)
      ∙ first_place (take at pattern) plain (drop (at + 1) pattern) text place occurs
      (λ k lt. found.before k (omega arith) lt)
      ∙ ap (λ p. is_wild (percent ∷ p) text) whole

  pub fits : (text : List ℕ) (place : ℕ) → OccursAt text (take at pattern) place → place + at ≤ length text
  fits text place occurs = omega (arith, occurs.fits, length_of_part)

  pub goes_on : (text : List ℕ) (place : ℕ) → NoneBefore (OccursAt text (take at pattern)) 0 (length text + 1) place →
      OccursAt text (take at pattern) place →
      is_wild (percent ∷ part_following at 1 pattern) (part_following place at text) ≡ is_wild (percent ∷ pattern) text
  goes_on text place found occurs =
      ap₂ (λ p t. is_wild (percent ∷ p) t) (following_both at 1 pattern) (following_both place at text)
      ∙ goes_on_from text place found occurs

  pub is_nowhere : (text : List ℕ) → Nowhere (OccursAt text (take at pattern)) 0 (length text + 1)
      → false ≡ is_wild (percent ∷ pattern) text
  is_nowhere text none =
      sym (no_place (take at pattern) plain (percent ∷ drop (at + 1) pattern) text (λ k lt. none k (omega arith) lt))
      ∙ ap (λ p. is_wild (percent ∷ p) text) whole
