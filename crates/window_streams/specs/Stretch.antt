-- Stretches of event time, with numbers from 0. Stretch 0 begins at the first event's time, and no stretch has an
-- earlier time.
use Rattle.std.specs.Prelude.{ℕ, ℤ, pos, negsuc, max, Bool, false, nat_lt, ◌==◌, Option, Some, None}

abbrev pub stretch_from : ℤ → Option ℕ
stretch_from (pos number) = Some number
stretch_from (negsuc number) = None

abbrev pub is_later : Option ℕ → ℕ → Bool
is_later None latest = false
is_later (Some number) latest = nat_lt latest number

abbrev pub is_same : Option ℕ → ℕ → Bool
is_same None latest = false
is_same (Some number) latest = number == latest

abbrev pub later_of : Option ℕ → ℕ → ℕ
later_of None latest = latest
later_of (Some number) latest = max latest number
