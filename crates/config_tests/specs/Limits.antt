-- The limits of tests, as numbers.
use Rattle.std.specs.Prelude.{ℕ}

-- the most seconds that pass in one tick
abbrev pub tick_limit : ℕ
tick_limit = 86400

-- the most seconds that pass in one test
abbrev pub test_limit : ℕ
test_limit = 1000000
