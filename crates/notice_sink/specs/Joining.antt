-- Parts of a text with single spaces between them.
use Rattle.std.specs.Prelude.{ℕ, List, [], ◌∷◌, ◌++◌}
use Rattle.std.specs.List.{flat_map}

-- each part with a space after it
abbrev pub ended : List (List ℕ) → List ℕ
ended parts = flat_map (λ part. part ++ 32 ∷ []) parts

-- each part with a space before it
abbrev pub led : List (List ℕ) → List ℕ
led parts = flat_map (λ part. 32 ∷ part) parts
