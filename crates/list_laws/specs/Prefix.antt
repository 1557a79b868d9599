-- Prefixes of a list.
use Rattle.std.specs.Prelude.{◌≡◌, ◌↔◌, Bool, IsTrue, List, ◌++◌}

abbrev pub IsPrefix : {T : Type 0} → List T → List T → Type 0
IsPrefix {T} front whole = (rest : List T) × (whole ≡ front ++ rest)

-- the test says whether two values are the same
abbrev pub TellsApart : {T : Type 0} → (T → T → Bool) → Type 0
TellsApart {T} eq = (x y : T) → IsTrue (eq x y) ↔ (x ≡ y)
