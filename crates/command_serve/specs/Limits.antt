-- The limit of a generated load, as a number.
use Rattle.std.specs.Prelude.{ℕ}

-- the most events of a generated load
abbrev pub event_limit : ℕ
event_limit = 1000000
