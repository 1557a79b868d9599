-- The numbers of the links that records open.
use Rattle.std.proofs.Common.{◌≡◌, ℕ, ◌+◌, ◌<◌, ◌≤◌, max, Bool, true, false, ◌&&◌, List, [], ◌∷◌, fold, refl, arith}
use Rattle.std.specs.List.{list_all}
use Rattle.std.proofs.lemmas.Bool.{lt-ltb}
use Rattle.journal_format.specs.declared.turn_record.TurnRecord.{TurnRecord}
use Rattle.journal_links.specs.Opened.{first_free, is_before, number_after}

both : (a b : Bool) → a ≡ true → b ≡ true → (a && b) ≡ true
both true b is other = other
both false b is other = absurd (cc is)

abbrev later : ℕ → TurnRecord → ℕ
later first entry = max first (number_after entry.event)

fold_above : (n : ℕ) (records : List TurnRecord) → n ≤ fold later n records
fold_above n [] = omega arith
fold_above n (entry ∷ records) = let more = fold_above (later n entry) records in omega (arith, more)

all_before : (n first : ℕ) (records : List TurnRecord) → fold later n records ≤ first
    → list_all (is_before first) records ≡ true
all_before n first [] le = refl
all_before n first (entry ∷ records) le =
    let more = fold_above (later n entry) records in
    both (is_before first entry) (list_all (is_before first) records)
    (lt-ltb (number_after entry.event) (first + 1) (omega (arith, more, le)))
    (all_before (later n entry) first records le)

pub are_before : (first : ℕ) (records : List TurnRecord) → first ≡ first_free records
    → list_all (is_before first) records ≡ true
are_before first records is = all_before 0 first records (omega (arith, is))
