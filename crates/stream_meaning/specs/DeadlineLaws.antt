-- What a deadline says: when a stream passes something on if only ticks follow.
use Rattle.std.specs.Prelude.{◌≡◌, ℕ, zero, suc, ◌+◌, ◌<◌, Bool, true, false, List, [], ◌∷◌, IfSome}
use Rattle.stream_plan.specs.Tree.{KindTree, By, Rollup, Batch, Coalesce}
use Rattle.stream_meaning.specs.History.{History, ◌▸◌, Tick, moment_of, is_at}
use Rattle.stream_meaning.specs.Emission.{Emission, emissions}
use Rattle.stream_meaning.specs.Deadlines.{next_deadline}

-- a history with n more ticks
abbrev pub waited : ℕ → History → History
waited zero h = h
waited (suc n) h = waited n h ▸ Tick

-- the numbers that count here are not 0, as those of a checked plan are not
abbrev pub HasRange : KindTree → Type 0
HasRange (By fields idle) = IfSome idle (λ secs. 0 < secs)
HasRange (Rollup n secs) = (0 < n) × (0 < secs)
HasRange (Batch n secs) = 0 < secs
HasRange (Coalesce secs) = 0 < secs
HasRange _ = Unit {0}

abbrev pub is_any : List Emission → Bool
is_any [] = false
is_any (emission ∷ more) = true

-- something is passed on at the last entry
abbrev pub emits : KindTree → History → Bool
emits kind h = is_any (emissions kind h)

abbrev pub DeadlinesLieAhead : Type 0
DeadlinesLieAhead =
    (kind : KindTree) (h : History) → HasRange kind → IfSome (next_deadline kind h) (λ deadline. moment_of h < deadline)

-- at the next tick something is passed on exactly where that is the deadline
abbrev pub DeadlinesAreMet : Type 0
DeadlinesAreMet = (kind : KindTree) (h : History) → HasRange kind
    → emits kind (h ▸ Tick) ≡ is_at (moment_of h + 1) (next_deadline kind h)

-- a tick at which nothing is passed on leaves the deadline
abbrev pub DeadlinesStay : Type 0
DeadlinesStay =
    (kind : KindTree) (h : History) → HasRange kind → emits kind (h ▸ Tick) ≡ false
    → next_deadline kind (h ▸ Tick) ≡ next_deadline kind h

-- nothing was passed on at the first n ticks that followed
abbrev pub IsStill : KindTree → History → ℕ → Type 0
IsStill kind h n = (k : ℕ) → k < n → emits kind (waited k h ▸ Tick) ≡ false

-- where only ticks follow, the first one at which something is passed on is the one at the deadline, and there is none
-- without
abbrev pub DeadlinesAreFirst : Type 0
DeadlinesAreFirst = (kind : KindTree) (h : History) (n : ℕ) → HasRange kind → IsStill kind h n →
    emits kind (waited n h ▸ Tick) ≡ is_at (moment_of h + n + 1) (next_deadline kind h)
