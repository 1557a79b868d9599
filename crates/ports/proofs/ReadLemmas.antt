-- How a log of reads grows.
use Rattle.std.proofs.Common.{◌≡◌, ℕ, Bool, List, [], ◌∷◌, ◌++◌}
use Rattle.std.proofs.lemmas.List.{map-append}
use Rattle.ports.specs.Reads.{read_of, reads_in}

pub one_read_more : (items : List (List ℕ × Bool)) (name : List ℕ) (failed : Bool)
    → reads_in (items ++ (name, failed) ∷ []) ≡ reads_in items ++ read_of name failed ∷ []
one_read_more items name failed =
    map-append (λ (pair : List ℕ × Bool). read_of pair.0 pair.1) items ((name, failed) ∷ [])
