-- What a log of reads holds.
use Rattle.std.specs.Prelude.{ℕ, Bool, List, map}
use Rattle.ports.specs.declared.store.StoreRead.{StoreRead}

-- a read of this name that was answered, and whether it failed
abbrev pub read_of : List ℕ → Bool → StoreRead
read_of name failed = record { name = name; failed = failed }

abbrev pub reads_in : List (List ℕ × Bool) → List StoreRead
reads_in = map (λ pair. read_of pair.0 pair.1)
