-- The bytes of a piece, wherever they are.
use Rattle.std.specs.Prelude.{ℕ, List}
use Rattle.ports.specs.declared.script.PieceBytes.{PieceBytes}
use Rattle.ports.specs.declared.script.PieceBytes.TheVariants.{Own, Shared}

abbrev pub held_bytes : PieceBytes → List ℕ
held_bytes (Own bytes) = bytes
held_bytes (Shared bytes) = bytes
