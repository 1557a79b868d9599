-- What files in memory hold.
use Rattle.std.specs.Prelude.{ℕ, List, [], ◌∷◌, Option, Some, None, if◌then◌else◌}
use Rattle.std.specs.Str.{bytes_eq}

-- a name, and the bytes under it
abbrev pub NamedFile : Type 0
NamedFile = List ℕ × List ℕ

-- the bytes of the first file with the name
abbrev pub held_in : List NamedFile → List ℕ → Option (List ℕ)
held_in [] name = None
held_in (file ∷ files) name = if bytes_eq file.0 name then Some file.1 else held_in files name
