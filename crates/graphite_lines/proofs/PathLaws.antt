-- Which words are paths, and where the host in a path is.
use Rattle.std.proofs.Common.{◌≡◌, ℕ, zero, suc, ◌+◌, ◌-◌, ◌<◌, ◌≤◌, ◌==◌, Bool, true, false, nat_le, List, [], ◌∷◌}
use Rattle.std.proofs.Common.{◌++◌, length, take, drop, get_or, Some, None, add-one, append_assoc, append-nil}
use Rattle.std.proofs.Common.{length-append, length-drop, length-take, refl, sym, subst, ◌∙◌, ap, arith, inl, inr}
use Rattle.std.proofs.Math.Seq.{drop-cons}
use Rattle.std.proofs.lemmas.List.{drop-drop, get_or-drop}
use Rattle.std.proofs.lemmas.List.Edits.{length-remove}
use Rattle.std.proofs.lemmas.Bool.{and_from, and_left, and_parts, and_right, cases_lt, eqb-true, false_from_ne_true}
use Rattle.std.proofs.lemmas.Bool.{leb-true, le-leb, le-ltb, lt-leb, lt-ltb}
use Rattle.std.proofs.lemmas.List.Splits.{join_with_byte-slice_split, length-slice_split, slice_split_first}
use Rattle.std.proofs.lemmas.List.Sums.{passes_at_first}
use Rattle.std.proofs.lemmas.Str.{IsCharBoundary-after_ascii, IsCharBoundary-start, IsUtf8-from_is_utf8}
use Rattle.std.proofs.lemmas.Str.{is_utf8-from_IsUtf8}
use Rattle.std.specs.List.{join_with_byte, list_all, position_or_len, remove}
use Rattle.std.specs.Str.{IsCharBoundary, IsUtf8, is_utf8}
use Rattle.graphite_lines.specs.Lines.{host_in, other_parts, part_of, parts_of, service_in}
use Rattle.graphite_lines.specs.Spans.{IsSpan}
use Rattle.graphite_lines.specs.Words.{is_path, is_path_byte}
use Rattle.graphite_lines.proofs.Finds.{split_nowhere}

-- ---- paths

pub path_of_many : (word : List ℕ) → 1024 < length word → is_path word ≡ false
unfolding is_path
path_of_many word many =
    and_left _ (is_utf8 word) (and_left _ (list_all is_path_byte word) (lt-leb (length word) 1024 many))

pub path_of_other_bytes : (word : List ℕ) → list_all is_path_byte word ≡ false → is_path word ≡ false
unfolding is_path
path_of_other_bytes word other = and_left _ (is_utf8 word) (and_right (nat_le (length word) 1024) _ other)

pub path_of_text : (word : List ℕ) → length word ≤ 1024 → list_all is_path_byte word ≡ true → IsUtf8 word
    → is_path word ≡ true
unfolding is_path
path_of_text word few bytes text =
    and_from _ _ (and_from _ _ (le-leb (length word) 1024 few) bytes) (is_utf8-from_IsUtf8 word text)

pub path_of_no_text : (word : List ℕ) → (IsUtf8 word → ⊥) → is_path word ≡ false
unfolding is_path
path_of_no_text word none =
    and_right _ (is_utf8 word) (false_from_ne_true (is_utf8 word) (λ e. none (IsUtf8-from_is_utf8 word e)))

pub path_length : (word : List ℕ) → is_path word ≡ true → length word ≤ 1024
unfolding is_path
path_length word h =
    let outer = and_parts _ _ h in let inner = and_parts _ _ outer.0 in leb-true (length word) 1024 inner.0

-- ---- parts

abbrev pub is_dot : ℕ → Bool
is_dot byte = byte == 46

dropped : (bytes : List ℕ) (i : ℕ) → i < length bytes → drop i bytes ≡ get_or bytes i 0 ∷ drop (i + 1) bytes
dropped bytes i h = rw (add-one, drop-cons bytes i 0)

pub parts_at_dot : (path : List ℕ) (dot : ℕ) → dot ≡ position_or_len is_dot path → dot < length path
    → parts_of path ≡ take dot path ∷ parts_of (drop (dot + 1) path)
parts_at_dot path dot is inside =
    let before : position_or_len is_dot path < length path = omega arith in
    rw is (slice_split_first is_dot path 0 before)

pub dot_is : (path : List ℕ) (dot : ℕ) → dot ≡ position_or_len is_dot path → dot < length path → get_or path dot 0 ≡ 46
dot_is path dot is inside =
    let before : position_or_len is_dot path < length path = omega arith in
    eqb-true (get_or path dot 0) 46 (rw is (passes_at_first is_dot path 0 before))

some_parts : (path : List ℕ) → 0 < length (parts_of path)
some_parts path = let e = length-slice_split is_dot path in omega arith

pub no_more_parts : (path : List ℕ) (number : ℕ) → 1 ≤ number → position_or_len is_dot path ≡ length path
    → length (parts_of path) ≤ number
no_more_parts path number positive h =
    let one : length (parts_of path) ≡ 1 = ap length (split_nowhere is_dot path h) in omega arith

-- the first part
pub first_span : (path : List ℕ) (dot : ℕ) → dot ≡ position_or_len is_dot path → dot < length path → IsSpan path 1 0 dot
first_span path dot is inside =
    let split = parts_at_dot path dot is inside in
    let some = some_parts (drop (dot + 1) path) in
    let whole : dot - 0 ≡ dot = omega arith in
    record {
      more = rw split (omega arith);
      ordered = omega arith;
      dot = dot_is path dot is inside;
      dot_before = λ h. absurd (omega arith);
      within = inside;
      part = rw (whole, split) refl;
      others = rw split (sym (join_with_byte-slice_split 46 (drop (dot + 1) path)));
    }

-- what is taken past a dot
take_past : (path : List ℕ) (dot n : ℕ) → dot < length path → get_or path dot 0 ≡ 46
    → take (dot + 1 + n) path ≡ take dot path ++ (46 ∷ take n (drop (dot + 1) path))
take_past [] dot n inside is = absurd (omega arith)
take_past (byte ∷ bytes) zero n inside is =
    let e : 0 + 1 + n ≡ suc n = omega arith in rw e (ap (λ b. b ∷ take n bytes) is)
take_past (byte ∷ bytes) (suc dot) n inside is =
    let e : suc dot + 1 + n ≡ suc (dot + 1 + n) = omega arith in
    let f : suc dot + 1 ≡ suc (dot + 1) = omega arith in
    rw (e, f) (ap (λ bs. byte ∷ bs) (take_past bytes dot n (omega arith) is))

join_more : (part : List ℕ) (parts : List (List ℕ)) → 0 < length parts
    → join_with_byte 46 (part ∷ parts) ≡ part ++ (46 ∷ join_with_byte 46 parts)
join_more part [] some = absurd (omega arith)
join_more part (next ∷ parts) some = refl

-- a later part is one of those after the first dot
later_dot_before : (path : List ℕ) (number dot start end : ℕ) → dot ≡ position_or_len is_dot path → dot < length path
    → IsSpan (drop (dot + 1) path) number start end → get_or path (dot + 1 + start - 1) 0 ≡ 46
later_dot_before path number dot start end is inside span = elim (cases_lt 0 start) [
  | inl some ↦ let e : dot + 1 + start - 1 ≡ dot + 1 + (start - 1) = omega arith in
      rw e (sym (get_or-drop (dot + 1) path (start - 1) 0) ∙ span.dot_before some)
  | inr none ↦ let e : dot + 1 + start - 1 ≡ dot = omega arith in rw e (dot_is path dot is inside)
]

next_of : (first : List ℕ) (rest : List (List ℕ)) (n m : ℕ) → n ≡ suc m → get_or (first ∷ rest) n [] ≡ get_or rest m []
next_of first rest n m e = rw e refl

next_removed : (first : List ℕ) (rest : List (List ℕ)) (n m : ℕ) → n ≡ suc m
    → remove (first ∷ rest) n ≡ first ∷ remove rest m
next_removed first rest n m e = rw e refl

later_part : (path : List ℕ) (number dot start end : ℕ) → 1 < number → dot ≡ position_or_len is_dot path
    → dot < length path
    → IsSpan (drop (dot + 1) path) (number - 1) start end
    → take (dot + 1 + end - (dot + 1 + start)) (drop (dot + 1 + start) path) ≡ part_of number path
later_part path number dot start end many is inside span =
    let split = parts_at_dot path dot is inside in
    let before : number - 1 ≡ suc (number - 1 - 1) = omega arith in
    let shift : dot + 1 + end - (dot + 1 + start) ≡ end - start = omega arith in
    let one : part_of number path ≡ part_of (number - 1) (drop (dot + 1) path) =
    rw split (next_of (take dot path) (parts_of (drop (dot + 1) path)) (number - 1) (number - 1 - 1) before) in
    rw shift (ap (take (end - start)) (sym (drop-drop start (dot + 1) path)) ∙ span.part ∙ sym one)

later_others : (path : List ℕ) (number dot start end : ℕ) → 1 < number → dot ≡ position_or_len is_dot path
    → dot < length path
    → IsSpan (drop (dot + 1) path) (number - 1) start end
    → take (dot + 1 + start) path ++ drop (dot + 1 + end + 1) path ≡ other_parts number path
later_others path number dot start end many is inside span =
    let rest = drop (dot + 1) path in
    let split = parts_at_dot path dot is inside in
    let more = span.more in
    let before : number - 1 ≡ suc (number - 1 - 1) = omega arith in
    let within : number - 1 - 1 < length (parts_of rest) = omega arith in
    let removed = length-remove (parts_of rest) (number - 1 - 1) within in
    let some : 0 < length (remove (parts_of rest) (number - 1 - 1)) = omega arith in
    let others : other_parts number path ≡ take dot path ++ (46 ∷ other_parts (number - 1) rest) =
    rw split (ap (join_with_byte 46) (next_removed (take dot path) (parts_of rest) (number - 1) (number - 1 - 1) before)
    ∙ join_more (take dot path) (remove (parts_of rest) (number - 1 - 1)) some) in
    let front = take_past path dot start inside (dot_is path dot is inside) in
    let places : dot + 1 + (end + 1) ≡ dot + 1 + end + 1 = omega arith in
    let back : drop (end + 1) rest ≡ drop (dot + 1 + end + 1) path =
    drop-drop (end + 1) (dot + 1) path ∙ ap (λ n. drop n path) places in
    ap (λ bytes. bytes ++ drop (dot + 1 + end + 1) path) front
    ∙ append_assoc (take dot path) (46 ∷ take start rest) (drop (dot + 1 + end + 1) path)
    ∙ ap (λ bytes. take dot path ++ (46 ∷ (take start rest ++ bytes))) (sym back)
    ∙ ap (λ bytes. take dot path ++ (46 ∷ bytes)) span.others ∙ sym others

pub later_span : (path : List ℕ) (number dot start end : ℕ) → 1 < number → dot ≡ position_or_len is_dot path
    → dot < length path
    → IsSpan (drop (dot + 1) path) (number - 1) start end → IsSpan path number (dot + 1 + start) (dot + 1 + end)
later_span path number dot start end many is inside span =
    let split = parts_at_dot path dot is inside in
    record {
      more = rw split (let more = span.more in omega arith);
      ordered = let ordered = span.ordered in omega arith;
      dot = sym (get_or-drop (dot + 1) path end 0) ∙ span.dot;
      dot_before = λ h. later_dot_before path (number - 1) dot start end is inside span;
      within = let within = span.within in omega (arith, length-drop (dot + 1) path);
      part = later_part path number dot start end many is inside span;
      others = later_others path number dot start end many is inside span;
    }

-- where no part is of that number after which another comes, none is later
pub no_later_part : (path : List ℕ) (number dot : ℕ) → 1 < number → dot ≡ position_or_len is_dot path
    → dot < length path
    → length (parts_of (drop (dot + 1) path)) ≤ number - 1 → length (parts_of path) ≤ number
no_later_part path number dot many is inside few = rw (parts_at_dot path dot is inside) (omega arith)

-- ---- host and service

pub no_host : (path : List ℕ) (number : ℕ) → length (parts_of path) ≤ number
    → (None ≡ host_in (Some number) path) × (path ++ [] ≡ service_in (Some number) path)
no_host path number few = rw (le-ltb number (length (parts_of path)) few) (refl, append-nil path)

pub host_of_span : (path : List ℕ) (number start end : ℕ) → IsSpan path number start end
    → (Some (take (end - start) (drop start path)) ≡ host_in (Some number) path)
    × (take start path ++ drop (end + 1) path ≡ service_in (Some number) path)
host_of_span path number start end span =
    rw (lt-ltb number (length (parts_of path)) span.more) (ap (λ part. Some part) span.part, span.others)

-- a path may be cut at both ends of its host
pub start_may_be_cut : (path : List ℕ) (number start end : ℕ) → IsUtf8 path → IsSpan path number start end
    → IsCharBoundary path start
start_may_be_cut path number start end text span = elim (cases_lt 0 start) [
  | inl some ↦
      let within = span.within in let ordered = span.ordered in let dot = span.dot_before some in
      let after : start - 1 + 1 ≡ start = omega arith in
      let P : ℕ → Type 0 = λ n. IsCharBoundary path n in
      subst P after (IsCharBoundary-after_ascii path (start - 1) text (omega arith) (omega arith))
  | inr none ↦ let zero_is : 0 ≡ start = omega arith in
      let P : ℕ → Type 0 = λ n. IsCharBoundary path n in subst P zero_is (IsCharBoundary-start path text)
]

pub end_may_be_cut : (path : List ℕ) (number start end : ℕ) → IsUtf8 path → IsSpan path number start end
    → IsCharBoundary path (end + 1)
end_may_be_cut path number start end text span =
    let dot = span.dot in IsCharBoundary-after_ascii path end text span.within (omega arith)

-- what is cut is no longer than the path
pub cut_length : (path : List ℕ) (start end : ℕ) → start ≤ end → end < length path
    → length (take start path ++ drop (end + 1) path) ≤ length path
cut_length path start end ordered within = simp (length-append, length-take, length-drop) (omega arith)

pub part_length : (path : List ℕ) (start end : ℕ) → start ≤ end → end < length path
    → length (take (end - start) (drop start path)) ≤ length path
part_length path start end ordered within = simp (length-take, length-drop) (omega arith)

pub no_longer : (path : List ℕ) → length (path ++ []) ≤ length path
no_longer path = rw append-nil (omega arith)
