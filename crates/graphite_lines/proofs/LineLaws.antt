-- The lines of a text, one after the other.
use Rattle.std.proofs.Common.{◌≡◌, ℕ, ◌+◌, ◌-◌, ◌<◌, ◌==◌, Bool, List, [], ◌∷◌, length, take, drop, refl, sym, ◌∙◌, ap}
use Rattle.std.proofs.Common.{arith}
use Rattle.std.proofs.lemmas.List.{take_rest}
use Rattle.std.proofs.lemmas.List.Splits.{length-slice_split, slice_split_first}
use Rattle.std.specs.List.{position_or_len, slice_split}
use Rattle.graphite_lines.specs.Lines.{ended, lines_of, without_cr}
use Rattle.graphite_lines.proofs.Finds.{split_nowhere}

abbrev pub is_line_feed : ℕ → Bool
is_line_feed byte = byte == 10

some_parts : (text : List ℕ) → 0 < length (slice_split is_line_feed text)
some_parts text = let e = length-slice_split is_line_feed text in omega arith

ended_first : (part : List ℕ) (parts : List (List ℕ)) → 0 < length parts
    → ended (part ∷ parts) ≡ without_cr part ∷ ended parts
ended_first part [] some = absurd (omega arith)
ended_first part (next ∷ parts) some = refl

pub more_lines : (text : List ℕ) (end : ℕ) → end ≡ position_or_len is_line_feed text → end < length text
    → lines_of text ≡ without_cr (take end text) ∷ lines_of (take (length text - (end + 1)) (drop (end + 1) text))
unfolding lines_of
more_lines text end is inside =
    let before : position_or_len is_line_feed text < length text = omega arith in
    let split : slice_split is_line_feed text ≡ take end text ∷ slice_split is_line_feed (drop (end + 1) text) =
    rw is (slice_split_first is_line_feed text 0 before) in
    ap ended split
    ∙ ended_first (take end text) (slice_split is_line_feed (drop (end + 1) text)) (some_parts (drop (end + 1) text))
    ∙ ap (λ (rest : List ℕ). without_cr (take end text) ∷ ended (slice_split is_line_feed rest))
    (sym (take_rest text (end + 1)))

pub last_line : (text : List ℕ) → position_or_len is_line_feed text ≡ length text → lines_of text ≡ text ∷ []
unfolding lines_of
last_line text h = ap ended (split_nowhere is_line_feed text h)
