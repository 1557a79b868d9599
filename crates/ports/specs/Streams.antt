-- What a writer takes, and what is reported of it.
use Rattle.std.specs.Prelude.{◌≡◌, ℕ, List, ◌++◌, take, Option, Some}
use Rattle.std.specs.Io.KnownBytes.{Appends}
use Rattle.ports.specs.Writing.{SinkReport}

abbrev pub stream_report : List ℕ → ℕ → ℕ → SinkReport
stream_report text puts faults = record { text = Some text; puts = Some puts; faults = faults }

-- The first of these bytes were taken: they are reported, and the writer got them, where it says what it has.
abbrev pub TookFirst : List ℕ → Option (List ℕ) → List ℕ → Option (List ℕ) → List ℕ → Type 0
TookFirst bytes contents text contents' text' =
    (n : ℕ) × (text' ≡ text ++ take n bytes) × Appends contents contents' (take n bytes)

-- all of them were
abbrev pub TookAll : List ℕ → Option (List ℕ) → List ℕ → Option (List ℕ) → List ℕ → Type 0
TookAll bytes contents text contents' text' = (text' ≡ text ++ bytes) × Appends contents contents' bytes
