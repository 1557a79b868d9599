-- A list of bytes as the reads of one link.
use Rattle.std.specs.Prelude.{ℕ, ◌==◌, if◌then◌else◌, List, [], ◌∷◌, ◌++◌, length, map, take, drop, zero, suc}
use Rattle.ports.specs.declared.script.LinkEvent.TheVariants.{Opened, Read, Ended}
use Rattle.ports.specs.declared.script.Script.{Script}
use Rattle.ports.specs.declared.script.Step.{Step}
use Rattle.ports.specs.declared.script.Step.TheVariants.{Turn}

-- the first n pieces of the bytes, or all where they are fewer
unfoldable pub pieces_within : ℕ → ℕ → List ℕ → List (List ℕ)
pieces_within limit zero bytes = []
pieces_within limit (suc n) bytes =
    if length bytes == 0 then [] else take limit bytes ∷ pieces_within limit n (drop limit bytes)

-- the bytes in pieces of the limit's length, the last with what is left
abbrev pub pieces_of : ℕ → List ℕ → List (List ℕ)
pieces_of limit bytes = pieces_within limit (length bytes) bytes

-- link 0 reads a piece in a turn at second 0
abbrev pub read_step : List ℕ → Step
read_step piece = Turn 0 (Read 0 piece)

-- Link 0 opens, reads the bytes, and ends, all at second 0.
abbrev pub feed_script : ℕ → List ℕ → Script
feed_script limit bytes = record {
  start = 0;
  steps = Turn 0 (Opened 0) ∷ (map read_step (pieces_of limit bytes) ++ Turn 0 (Ended 0) ∷ []);
}
