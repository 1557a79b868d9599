-- The words of a line, one after the other.
use Rattle.std.proofs.Common.{◌≡◌, ℕ, zero, suc, ◌+◌, ◌<◌, ◌≤◌, Bool, true, false, not, List, [], ◌∷◌, length, take}
use Rattle.std.proofs.Common.{drop, get_or, filter, add-one, refl, sym, ◌∙◌, ap, arith}
use Rattle.std.proofs.Math.Seq.{drop-cons}
use Rattle.std.proofs.lemmas.Bool.{not-false, not-true}
use Rattle.std.proofs.lemmas.List.Splits.{slice_split-cons_yes, slice_split_first}
use Rattle.std.proofs.lemmas.List.Sums.{fails_before_first, passes_at_first, prefix_len-le-length}
use Rattle.std.specs.List.{position_or_len, slice_split}
use Rattle.graphite_lines.specs.Words.{has_bytes, is_blank, words_of}
use Rattle.graphite_lines.proofs.Finds.{split_nowhere}

abbrev pub is_word_byte : ℕ → Bool
is_word_byte byte = not (is_blank byte)

blank_first : (byte : ℕ) (bytes : List ℕ) → is_blank byte ≡ true → words_of (byte ∷ bytes) ≡ words_of bytes
unfolding words_of
blank_first byte bytes h = ap (filter has_bytes) (slice_split-cons_yes is_blank byte bytes h)

pub words_of_nothing : words_of [] ≡ []
unfolding words_of
words_of_nothing = refl

blanks_first : (bytes : List ℕ) (n : ℕ) → n ≤ length bytes → ((k : ℕ) → k < n → is_blank (get_or bytes k 0) ≡ true)
    → words_of bytes ≡ words_of (drop n bytes)
blanks_first bytes zero within all = refl
blanks_first [] (suc n) within all = absurd (omega arith)
blanks_first (byte ∷ bytes) (suc n) within all =
    blank_first byte bytes (all 0 (omega arith))
    ∙ blanks_first bytes n (omega arith) (λ k less. all (suc k) (omega arith))

-- up to the first byte of a word
pub words_from : (bytes : List ℕ) → words_of bytes ≡ words_of (drop (position_or_len is_word_byte bytes) bytes)
words_from bytes =
    let within : position_or_len is_word_byte bytes ≤ length bytes = prefix_len-le-length _ bytes in
    blanks_first bytes (position_or_len is_word_byte bytes) within
    (λ k less. not-false _ (fails_before_first is_word_byte bytes k 0 less))

drop_whole : (bytes : List ℕ) → drop (length bytes) bytes ≡ []
drop_whole [] = refl
drop_whole (byte ∷ bytes) = drop_whole bytes

pub no_words : (bytes : List ℕ) → position_or_len is_word_byte bytes ≡ length bytes → words_of bytes ≡ []
no_words bytes h =
    words_from bytes ∙ ap (λ n. words_of (drop n bytes)) h ∙ ap words_of (drop_whole bytes) ∙ words_of_nothing

dropped : (bytes : List ℕ) (i : ℕ) → i < length bytes → drop i bytes ≡ get_or bytes i 0 ∷ drop (i + 1) bytes
dropped bytes i h = rw (add-one, drop-cons bytes i 0)

-- what is left from there on begins with a byte of a word
pub skipped : (bytes : List ℕ) (start : ℕ) → start ≡ position_or_len is_word_byte bytes → start < length bytes
    → is_blank (get_or (drop start bytes) 0 0) ≡ false
skipped bytes start is inside =
    let before : position_or_len is_word_byte bytes < length bytes = omega arith in
    let passes : not (is_blank (get_or bytes start 0)) ≡ true = rw is (passes_at_first is_word_byte bytes 0 before) in
    rw (dropped bytes start inside) (not-true _ passes)

-- a word is what is before the first blank
kept_first : (word : List ℕ) (parts : List (List ℕ)) → 0 < length word
    → filter has_bytes (word ∷ parts) ≡ word ∷ filter has_bytes parts
kept_first [] parts h = absurd (omega arith)
kept_first (byte ∷ bytes) parts h = refl

first_length : (n : ℕ) (bytes : List ℕ) → 0 < n → n ≤ length bytes → 0 < length (take n bytes)
first_length zero bytes h within = absurd (omega arith)
first_length (suc n) [] h within = absurd (omega arith)
first_length (suc n) (byte ∷ bytes) h within = omega arith

pub word_at_blank : (bytes : List ℕ) (n : ℕ) → n ≡ position_or_len is_blank bytes → n < length bytes → 0 < n
    → words_of bytes ≡ take n bytes ∷ words_of (drop n bytes)
unfolding words_of
word_at_blank bytes n is inside some =
    let before : position_or_len is_blank bytes < length bytes = omega arith in
    let split : slice_split is_blank bytes ≡ take n bytes ∷ slice_split is_blank (drop (n + 1) bytes) =
    rw is (slice_split_first is_blank bytes 0 before) in
    let blank : is_blank (get_or bytes n 0) ≡ true = rw is (passes_at_first is_blank bytes 0 before) in
    let rest : drop n bytes ≡ get_or bytes n 0 ∷ drop (n + 1) bytes = dropped bytes n inside in
    ap (filter has_bytes) split
    ∙ kept_first (take n bytes) (slice_split is_blank (drop (n + 1) bytes)) (first_length n bytes some (omega arith))
    ∙ ap (λ words. take n bytes ∷ words)
    (sym (ap words_of rest ∙ blank_first (get_or bytes n 0) (drop (n + 1) bytes) blank))

pub word_alone : (bytes : List ℕ) → position_or_len is_blank bytes ≡ length bytes → 0 < length bytes
    → words_of bytes ≡ bytes ∷ words_of []
unfolding words_of
word_alone bytes h some = ap (filter has_bytes) (split_nowhere is_blank bytes h) ∙ kept_first bytes [] some

-- a word begins where its first byte is no blank
pub some_before_blank : (bytes : List ℕ) → 0 < length bytes → is_blank (get_or bytes 0 0) ≡ false
    → 0 < position_or_len is_blank bytes
some_before_blank [] some h = absurd (omega arith)
some_before_blank (byte ∷ bytes) some h = rw h (omega arith)

pub nothing_left : (bytes rest : List ℕ) → words_of rest ≡ words_of bytes → length rest ≡ 0 → words_of bytes ≡ []
nothing_left bytes [] same none = sym same ∙ words_of_nothing
nothing_left bytes (byte ∷ rest) same none = absurd (omega arith)
