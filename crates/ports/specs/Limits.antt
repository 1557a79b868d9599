-- The limit of pieces, as a number.
use Rattle.std.specs.Prelude.{ℕ}

-- the most bytes of a piece that is read of a link
abbrev pub piece_limit : ℕ
piece_limit = 65536
