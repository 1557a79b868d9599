-- What a turn and a send do to the bytes of a stream.
use Rattle.std.specs.Prelude.{ℕ, List, [], take, Option, Some, None, ⊤}
use Rattle.std.specs.Io.KnownBytes.{Appends, IsAtEnd, Keeps}
use Rattle.ports.specs.Links.{piece_of}
use Rattle.ports.specs.declared.links.SendAnswer.{SendAnswer}
use Rattle.ports.specs.declared.links.SendAnswer.TheVariants as send
use Rattle.ports.specs.declared.links.What.{What}
use Rattle.ports.specs.declared.links.What.TheVariants.{Ended}

-- the bytes of a turn that was found: the first ones of the buffer after a read, and else none
abbrev pub piece_found : Option What → List ℕ → List ℕ
piece_found None buf = []
piece_found (Some what) buf = piece_of what buf

-- the turn that a client sends nothing more comes where no byte is left
abbrev pub EndsAtEnd : Option (List ℕ) → What → Type 0
EndsAtEnd left (Ended link) = IsAtEnd left
EndsAtEnd left _ = ⊤

-- the stream got what was taken, and nothing else
abbrev pub Took : Option (List ℕ) → Option (List ℕ) → List ℕ → SendAnswer → Type 0
Took contents contents' bytes (send.Took count) = Appends contents contents' (take count bytes)
Took contents contents' bytes _ = Keeps contents contents'
