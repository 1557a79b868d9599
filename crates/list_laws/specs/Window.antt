-- Windows of a length, in a row from a first moment on, with numbers from 0.
use Rattle.std.specs.Prelude.{ℕ, ◌-◌, ◌/◌}

-- the number of the window that the moment t is in
abbrev pub window_number : ℕ → ℕ → ℕ → ℕ
window_number t s0 len = (t - s0) / len
