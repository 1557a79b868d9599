-- The limits of plans, as numbers.
use Rattle.std.specs.Prelude.{ℕ}

-- the greatest count of a stream
abbrev pub count_limit : ℕ
count_limit = 1000000

-- the most streams of a plan
abbrev pub streams_limit : ℕ
streams_limit = 4096

-- the most streams above a stream
abbrev pub depth_limit : ℕ
depth_limit = 64
