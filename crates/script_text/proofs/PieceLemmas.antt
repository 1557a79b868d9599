-- What is decoded as a piece.
use Rattle.std.proofs.Common.{◌≡◌, ℕ, ◌*◌, ◌<◌, ◌≤◌, List, length, Option, Some, None, Result, Ok, Err, MatchOption}
use Rattle.std.proofs.Common.{refl, sym, ◌∙◌, ap, arith}
use Rattle.std.proofs.lemmas.Bool.Decides.{nat_tests}
use Rattle.hex.specs.Hex.{decode_of}
use Rattle.hex.specs.declared.error.FromHexError.{FromHexError}
use Rattle.hex.proofs.HexLemmas.{decode_of-ok}
use Rattle.script_text.specs.Words.{piece_of, within_piece}

small_none : (bytes : List ℕ) → length bytes ≡ 0 → within_piece (Ok bytes) ≡ None
small_none bytes h = grind (arith, nat_tests)

large_none : (bytes : List ℕ) → 65536 < length bytes → within_piece (Ok bytes) ≡ None
large_none bytes h = grind (arith, nat_tests)

none_within : (word : List ℕ) (r : Result (List ℕ) FromHexError) → decode_of word ≡ r → length word ≡ 0
    → within_piece r ≡ None
none_within word (Ok bytes) h none =
    let parts = decode_of-ok word bytes h in let twice : length word ≡ 2 * length bytes = parts.2 in
    small_none bytes (omega arith)
none_within word (Err why) h none = refl

many_within : (word : List ℕ) (r : Result (List ℕ) FromHexError) → decode_of word ≡ r → 131072 < length word
    → within_piece r ≡ None
many_within word (Ok bytes) h many =
    let parts = decode_of-ok word bytes h in let twice : length word ≡ 2 * length bytes = parts.2 in
    large_none bytes (omega arith)
many_within word (Err why) h many = refl

pub piece_of_none : (word : List ℕ) → length word ≡ 0 → piece_of word ≡ None
unfolding piece_of
piece_of_none word h = none_within word (decode_of word) refl h

pub piece_of_many : (word : List ℕ) → 131072 < length word → piece_of word ≡ None
unfolding piece_of
piece_of_many word h = many_within word (decode_of word) refl h

all_within : (bytes : List ℕ) → 0 < length bytes → length bytes ≤ 65536 → within_piece (Ok bytes) ≡ Some bytes
all_within bytes some few = grind (arith, nat_tests)

pub piece_of_ok : (word bytes : List ℕ) (piece : Option (List ℕ)) → 0 < length word → length word ≤ 131072
    → decode_of word ≡ Ok bytes
    → MatchOption piece ((0 < length bytes) × (length bytes ≤ 65536) → ⊥) (λ piece. piece ≡ bytes)
    → piece ≡ piece_of word
unfolding piece_of
piece_of_ok word bytes None some few h m =
    let parts = decode_of-ok word bytes h in let twice : length word ≡ 2 * length bytes = parts.2 in
    absurd (m (omega arith, omega arith))
piece_of_ok word bytes (Some piece) some few h m =
    let parts = decode_of-ok word bytes h in let twice : length word ≡ 2 * length bytes = parts.2 in
    ap Some m ∙ sym (ap within_piece h ∙ all_within bytes (omega arith) (omega arith))

pub piece_of_err : (word : List ℕ) (why : FromHexError) → decode_of word ≡ Err why → piece_of word ≡ None
unfolding piece_of
piece_of_err word why h = ap within_piece h
