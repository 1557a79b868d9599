-- A history: all that has come to a stream since a first moment, in order.
use Rattle.std.specs.Prelude.{ℕ, ◌+◌, ◌==◌, Bool, false, Option, Some, None}
use Rattle.list_laws.specs.Window.{window_number}
pub use Rattle.stream_meaning.specs.declared.entry.Entry.{Entry}
pub use Rattle.stream_meaning.specs.declared.entry.Entry.TheVariants.{Tick, Item as In}

infixl 60 ◌▸◌
pub data History : Type 0 where
  since : ℕ → History
  ◌▸◌ : History → Entry → History

-- the moment at which it begins
abbrev pub begun : History → ℕ
begun (since start) = start
begun (h ▸ x) = begun h

-- the moment of its last entry: where it begins, and a second more for each tick
abbrev pub moment_of : History → ℕ
moment_of (since start) = start
moment_of (h ▸ Tick) = moment_of h + 1
moment_of (h ▸ In item) = moment_of h

-- the number of the window of this many seconds in which its last entry lies; windows are counted from its begin
abbrev pub window_of : ℕ → History → ℕ
window_of secs h = window_number (moment_of h) (begun h) secs

-- the moment is this one, where there is one
abbrev pub is_at : ℕ → Option ℕ → Bool
is_at moment None = false
is_at moment (Some other) = moment == other

-- nothing has come but ticks
abbrev pub TicksAlone : History → Type 0
TicksAlone (since start) = Unit {0}
TicksAlone (h ▸ Tick) = TicksAlone h
TicksAlone (h ▸ In item) = ⊥
