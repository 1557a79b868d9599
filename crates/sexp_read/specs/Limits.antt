-- The limits of texts of forms, as numbers.
use Rattle.std.specs.Prelude.{ℕ}

-- the most bytes of a text
abbrev pub byte_limit : ℕ
byte_limit = 1048576

-- the most brackets that are open at once
abbrev pub depth_limit : ℕ
depth_limit = 64
