-- The limits of queries, as numbers.
use Rattle.std.specs.Prelude.{ℕ}

-- the most bytes of a query
abbrev pub byte_limit : ℕ
byte_limit = 4096

-- the most opening brackets and words `not` of a query
abbrev pub opening_limit : ℕ
opening_limit = 64
