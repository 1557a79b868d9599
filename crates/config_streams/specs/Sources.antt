-- The places of the forms of streams.
use Rattle.std.specs.Prelude.{ℕ, zero, suc, List, [], ◌∷◌, Option, Some, None}

-- the place of the form of a stream, and those of its children and of the streams that get the rest
mutual
  pub data SourceTree : Type 0 where
    source : ℕ → SourceTrees → SourceTrees → SourceTree

  pub data SourceTrees : Type 0 where
    none : SourceTrees
    also : SourceTree → SourceTrees → SourceTrees

abbrev pub with_source : SourceTrees → SourceTree → SourceTrees
with_source none one = also one none
with_source (also first sources) one = also first (with_source sources one)

-- some, and others after them
abbrev pub with_sources : SourceTrees → SourceTrees → SourceTrees
with_sources none others = others
with_sources (also first sources) others = also first (with_sources sources others)

abbrev pub nth_source : ℕ → SourceTrees → Option SourceTree
nth_source n none = None
nth_source zero (also first sources) = Some first
nth_source (suc n) (also first sources) = nth_source n sources

-- the place to which a path leads, from the top down: each number counts the streams that follow the one
-- above, its children first
abbrev pub place_of : ℕ → Option SourceTree → ℕ
place_of here None = here
place_of here (Some (source place children otherwise)) = place

abbrev pub sources_of : Option SourceTree → SourceTrees
sources_of None = none
sources_of (Some (source place children otherwise)) = with_sources children otherwise

abbrev pub place_along : ℕ → SourceTrees → List ℕ → ℕ
place_along here sources [] = here
place_along here sources (n ∷ path) =
    place_along (place_of here (nth_source n sources)) (sources_of (nth_source n sources)) path
