-- Patterns in which `%` matches any bytes, also none, and every other byte matches itself.
use Rattle.std.specs.Prelude.{◌≡◌, ◌↔◌, IsTrue, ℕ, ◌==◌, Bool, true, false, ◌&&◌, List, [], ◌∷◌, ◌++◌, if◌then◌else◌}
use Rattle.std.specs.List.{list_any}

-- the byte `%`
abbrev pub percent : ℕ
percent = 37

-- the parts between the `%` of a pattern: a first part, and the later ones
pub record Parts : Type 0 where
  pub first : List ℕ
  pub later : List (List ℕ)

abbrev pub parts_of : List ℕ → Parts
parts_of [] = record { first = []; later = [] }
parts_of (byte ∷ pattern) =
    let rest = parts_of pattern in
    if byte == percent then record { first = []; later = rest.first ∷ rest.later }
    else record { first = byte ∷ rest.first; later = rest.later }

-- the text is the first part, and then each later one after any bytes
abbrev pub IsJoined : List ℕ → List (List ℕ) → List ℕ → Type 0
IsJoined first [] text = text ≡ first
IsJoined first (next ∷ later) text =
    (gap : List ℕ) × (rest : List ℕ) × (text ≡ first ++ (gap ++ rest)) × IsJoined next later rest

-- the text is the concatenation of the pattern's parts, with any bytes between them
abbrev pub IsWild : List ℕ → List ℕ → Type 0
IsWild pattern text = IsJoined (parts_of pattern).first (parts_of pattern).later text

-- what is left of a text from each of its places on
abbrev pub tails : List ℕ → List (List ℕ)
tails [] = [] ∷ []
tails (byte ∷ text) = (byte ∷ text) ∷ tails text

abbrev pub is_nothing : List ℕ → Bool
is_nothing [] = true
is_nothing (byte ∷ text) = false

-- the text begins with the byte, and what is left of it passes the test
abbrev pub is_byte_before : ℕ → (List ℕ → Bool) → List ℕ → Bool
is_byte_before byte test [] = false
is_byte_before byte test (first ∷ text) = first == byte && test text

-- The same as a test, byte by byte: after a `%` the pattern may go on at any place of the text.
abbrev pub is_wild : List ℕ → List ℕ → Bool
is_wild [] text = is_nothing text
is_wild (byte ∷ pattern) text =
    if byte == percent then list_any (is_wild pattern) (tails text) else is_byte_before byte (is_wild pattern) text

abbrev pub WildTextsAreJoined : Type 0
WildTextsAreJoined = (pattern text : List ℕ) → IsTrue (is_wild pattern text) ↔ IsWild pattern text
