-- The limit of frames, as a number.
use Rattle.std.specs.Prelude.{ℕ}

-- the most bytes of the body of a frame
abbrev pub body_limit : ℕ
body_limit = 4194304
