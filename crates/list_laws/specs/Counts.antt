-- Counts that never fall, as those of faults. One that is kept in 64 bits stays at its greatest number.
use Rattle.std.specs.Prelude.{ℕ, ◌-◌, ◌^◌, ◌<◌}

-- the count at which a counter stays
abbrev pub greatest : ℕ
greatest = 2 ^ 64 - 1

-- the count rose; one that is at its greatest number counts as risen
abbrev pub Rose : ℕ → ℕ → Type 0
Rose old new = new < greatest → old < new
