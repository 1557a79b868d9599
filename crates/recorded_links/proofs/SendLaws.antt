-- What a send more leaves true of the summaries.
use Rattle.std.proofs.Common.{◌≡◌, ◌≢◌, ℕ, zero, suc, ◌+◌, ◌^◌, ◌<◌, ◌==◌, Bool, true, false, cond, ◌&&◌, ◌||◌, not}
use Rattle.std.proofs.Common.{List, [], ◌∷◌, ◌++◌, length, get_or, set, refl, ap, sym, ◌∙◌, arith}
use Rattle.std.specs.Prelude.{Some, None, nat_lt, position}
use Rattle.std.specs.List.{AllByRecursion, list_all, list_any, position_or_len}
use Rattle.std.proofs.lemmas.Bool.{and_parts, lt-ltb, ltb-true, eqb-true, eq-eqb}
use Rattle.std.proofs.lemmas.List.Folds.{list_all-append}
use Rattle.std.proofs.lemmas.List.Quantifiers.{position-Some}
use Rattle.std.proofs.lemmas.Option.{none-some}
use Rattle.journal_format.specs.Spelling.{AreWords, are_distinct, has_link}
use Rattle.journal_format.specs.declared.turn_record.Summary.{Summary}
use Rattle.recorded_links.specs.Sending.{Fits, has_words, is_of, merged, nothing_sent, place_of, summary_at}

both : (a b : Bool) → a ≡ true → b ≡ true → (a && b) ≡ true
both true b is other = other
both false b is other = absurd (cc is)

-- ---- the numbers

pub all_set : (test : Summary → Bool) (summaries : List Summary) (place : ℕ) (summary : Summary)
    → list_all test summaries ≡ true → test summary ≡ true → list_all test (set summaries place summary) ≡ true
all_set test [] place summary all passes = refl
all_set test (first ∷ rest) zero summary all passes =
    both (test summary) (list_all test rest) passes (and_parts (test first) (list_all test rest) all).1
all_set test (first ∷ rest) (suc place) summary all passes =
    let parts = and_parts (test first) (list_all test rest) all in
    both (test first) (list_all test (set rest place summary)) parts.0 (all_set test rest place summary parts.1 passes)

all_at : (test : Summary → Bool) (summaries : List Summary) (place : ℕ) (other : Summary) → place < length summaries
    → list_all test summaries ≡ true → test (get_or summaries place other) ≡ true
all_at test [] place other within all = absurd (omega arith)
all_at test (first ∷ rest) zero other within all = (and_parts (test first) (list_all test rest) all).0
all_at test (first ∷ rest) (suc place) other within all =
    all_at test rest place other (omega arith) (and_parts (test first) (list_all test rest) all).1

pub word_parts : (summary : Summary) → has_words summary ≡ true → AreWords summary
word_parts summary is =
    let parts = and_parts (nat_lt summary.link (2 ^ 64)) (nat_lt summary.taken (2 ^ 64)) is in
    record { link = ltb-true summary.link (2 ^ 64) parts.0; taken = ltb-true summary.taken (2 ^ 64) parts.1 }

pub words_of : (summaries : List Summary) → list_all has_words summaries ≡ true → AllByRecursion AreWords summaries
words_of [] all = tt
words_of (first ∷ rest) all =
    let parts = and_parts (has_words first) (list_all has_words rest) all in
    (word_parts first parts.0, words_of rest parts.1)

pub are_words : (summary : Summary) → summary.link < 2 ^ 64 → summary.taken < 2 ^ 64 → has_words summary ≡ true
are_words summary link taken =
    both (nat_lt summary.link (2 ^ 64)) (nat_lt summary.taken (2 ^ 64)) (lt-ltb summary.link (2 ^ 64) link)
    (lt-ltb summary.taken (2 ^ 64) taken)

pub merged_words : (summaries : List Summary) (place : ℕ) (sent : Summary) → list_all has_words summaries ≡ true
    → place_of sent.link summaries ≡ Some place → Fits sent.link sent.taken summaries
    → list_all has_words (set summaries place (merged (summary_at summaries place) sent)) ≡ true
merged_words summaries place sent all is fits =
    let found = position-Some (is_of sent.link) summaries place nothing_sent is in
    let before = word_parts (summary_at summaries place) (all_at has_words summaries place nothing_sent found.0 all) in
    all_set has_words summaries place (merged (summary_at summaries place) sent) all
    (are_words (merged (summary_at summaries place) sent) before.link (fits place is))

pub more_words : (summaries : List Summary) (sent : Summary) → list_all has_words summaries ≡ true → sent.link < 2 ^ 64
    → sent.taken < 2 ^ 64 → list_all has_words (summaries ++ sent ∷ []) ≡ true
more_words summaries sent all link taken =
    list_all-append has_words summaries (sent ∷ []) ∙ both (list_all has_words summaries)
    (list_all has_words (sent ∷ [])) all (both (has_words sent) true (are_words sent link taken) refl)

-- ---- one summary a link

any_set : (link : ℕ) (summaries : List Summary) (place : ℕ) (summary other : Summary)
    → summary.link ≡ (get_or summaries place other).link
    → has_link link (set summaries place summary) ≡ has_link link summaries
any_set link [] place summary other same = refl
any_set link (first ∷ rest) zero summary other same = ap (λ (n : ℕ). (n == link) || has_link link rest) same
any_set link (first ∷ rest) (suc place) summary other same =
    ap (λ (b : Bool). (first.link == link) || b) (any_set link rest place summary other same)

pub set_distinct : (summaries : List Summary) (place : ℕ) (summary other : Summary)
    → summary.link ≡ (get_or summaries place other).link
    → are_distinct (set summaries place summary) ≡ are_distinct summaries
set_distinct [] place summary other same = refl
set_distinct (first ∷ rest) zero summary other same =
    ap (λ (n : ℕ). cond (has_link n rest) false (are_distinct rest)) same
set_distinct (first ∷ rest) (suc place) summary other same =
    ap (λ (b : Bool). cond b false (are_distinct (set rest place summary)))
    (any_set first.link rest place summary other same)
    ∙ ap (λ (b : Bool). cond (has_link first.link rest) false b) (set_distinct rest place summary other same)

pub merged_distinct : (summaries : List Summary) (place : ℕ) (sent : Summary) → are_distinct summaries ≡ true
    → are_distinct (set summaries place (merged (summary_at summaries place) sent)) ≡ true
merged_distinct summaries place sent distinct =
    set_distinct summaries place (merged (summary_at summaries place) sent) nothing_sent refl ∙ distinct

-- where a test passes, the first place at which it does is within the list
found_within : (test : Summary → Bool) (summaries : List Summary) → list_any test summaries ≡ true
    → position_or_len test summaries < length summaries
found_within test [] is = absurd (cc is)
found_within test (first ∷ rest) is = by_test (test first) (λ any. found_within test rest any) is
  where
    by_test : (t : Bool) → (list_any test rest ≡ true → position_or_len test rest < length rest)
        → (t || list_any test rest) ≡ true → cond (not t) (1 + position_or_len test rest) 0 < length (first ∷ rest)
    by_test true later any = omega arith
    by_test false later any = let below = later any in omega (arith, below)

none_any : (test : Summary → Bool) (summaries : List Summary) → position test summaries ≡ None
    → list_any test summaries ≡ false
none_any test summaries none = by_test (list_any test summaries) refl
  where
    by_test : (t : Bool) → list_any test summaries ≡ t → list_any test summaries ≡ false
    by_test true is =
        let within = lt-ltb (position_or_len test summaries) (length summaries) (found_within test summaries is) in
        let there : position test summaries ≡ Some (position_or_len test summaries) = rw within refl in
        absurd (none-some (position_or_len test summaries) (sym none ∙ there))
    by_test false is = is

any_more : (link : ℕ) (summaries : List Summary) (sent : Summary) → link ≢ sent.link
    → has_link link (summaries ++ sent ∷ []) ≡ has_link link summaries
any_more link [] sent apart = by_test (sent.link == link) refl
  where
    by_test : (t : Bool) → (sent.link == link) ≡ t → (t || false) ≡ false
    by_test true same = absurd (apart (sym (eqb-true sent.link link same)))
    by_test false same = refl
any_more link (first ∷ rest) sent apart = ap (λ (b : Bool). (first.link == link) || b) (any_more link rest sent apart)

pub more_distinct : (summaries : List Summary) (sent : Summary) → are_distinct summaries ≡ true
    → has_link sent.link summaries ≡ false → are_distinct (summaries ++ sent ∷ []) ≡ true
more_distinct [] sent distinct none = refl
more_distinct (first ∷ rest) sent distinct none =
    by_test (λ is apart. more_distinct rest sent is apart) (has_link first.link rest) refl distinct
  where
    by_none : (t : Bool) → (first.link == sent.link) ≡ t → (t || has_link sent.link rest) ≡ false
        → (first.link ≢ sent.link) × (has_link sent.link rest ≡ false)
    by_none true same any = absurd (cc any)
    by_none false same any = (λ is. absurd (cc (same, eq-eqb first.link sent.link is)), any)

    by_test : (are_distinct rest ≡ true → has_link sent.link rest ≡ false → are_distinct (rest ++ sent ∷ []) ≡ true)
        → (t : Bool) → has_link first.link rest ≡ t → cond t false (are_distinct rest) ≡ true
        → are_distinct (first ∷ (rest ++ sent ∷ [])) ≡ true
    by_test later true has is = absurd (cc is)
    by_test later false has is =
        let apart = by_none (first.link == sent.link) refl none in
        ap (λ (b : Bool). cond b false (are_distinct (rest ++ sent ∷ []))) (any_more first.link rest sent apart.0 ∙ has)
        ∙ later is apart.1

pub noted_distinct : (summaries : List Summary) (sent : Summary) → are_distinct summaries ≡ true
    → place_of sent.link summaries ≡ None → are_distinct (summaries ++ sent ∷ []) ≡ true
noted_distinct summaries sent distinct none =
    more_distinct summaries sent distinct (none_any (is_of sent.link) summaries none)
