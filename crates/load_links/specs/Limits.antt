-- The numbers of the generator of a load.
use Rattle.std.specs.Prelude.{ℕ}

-- by which the generator multiplies (Knuth, MMIX)
abbrev pub multiplier : ℕ
multiplier = 6364136223846793005

-- what it adds then
abbrev pub increment : ℕ
increment = 1442695040888963407
