-- The clock of a server, and of a client: whole seconds since 1970, which never go back, are never after 2^40, and go
-- on by at most an hour a turn.
use Rattle.std.specs.Prelude.{ℕ, ◌+◌, ◌^◌, min, max}

abbrev pub latest_moment : ℕ
latest_moment = 2 ^ 40

abbrev pub seconds_per_turn_limit : ℕ
seconds_per_turn_limit = 3600

-- the moment at which a run begins that reads this clock
abbrev pub first_moment : ℕ → ℕ
first_moment secs = min secs latest_moment

-- the moment of a turn that reads this clock
abbrev pub next_moment : ℕ → ℕ → ℕ
next_moment now secs = max now (min secs (min (now + seconds_per_turn_limit) latest_moment))
