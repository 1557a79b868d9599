-- Counts that never fall. One that is kept in 64 bits stays at its greatest number, where it counts as risen.
use Rattle.std.specs.Prelude.{◌≡◌, ℕ, ◌+◌, ◌<◌, ◌≤◌, min}
pub use Rattle.list_laws.specs.Counts.{Rose, greatest}

-- the count rose by at least `by`, or is at its greatest number
abbrev pub RoseBy : ℕ → ℕ → ℕ → Type 0
RoseBy by old new = new < greatest → old + by ≤ new

-- the count certainly did not rise
abbrev pub IsStill : ℕ → ℕ → Type 0
IsStill old new = (new ≡ old) × (new < greatest)

-- the count after that many more
abbrev pub count_after : ℕ → ℕ → ℕ
count_after count more = min (count + more) greatest
