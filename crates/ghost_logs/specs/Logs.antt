-- What the logs hold, of which each entry is a pair.
use Rattle.std.specs.Prelude.{ℕ, List, map}

abbrev pub first_of_each : {A : Type 0} → List (A × ℕ) → List A
first_of_each = map (λ pair. pair.0)
