-- A log is what was done to an index. An event that was written is live until a later write of its key, until a
-- reap at a moment at which it is late, and not at all where its state is "expired".
use Rattle.std.specs.Prelude.{◌≡◌, ℕ, Bool, not, ◌||◌, if◌then◌else◌, List, [], ◌∷◌, ◌++◌, filter}
use Rattle.std.specs.List.{list_any}
use Rattle.std.specs.List.Sorted.{IsStrictlySortedBy, IsPermutation}
use Rattle.std.specs.Ordering.{is_lt}
use Rattle.ev_types.specs.declared.event.Event.{Event}
pub use Rattle.ev_types.specs.Text.{is_text}
pub use Rattle.ev_types.specs.Expiry.{ends_key, is_late}
use Rattle.ev_types.specs.Expiry.{is_expired}
use Rattle.index_log.specs.IndexKey.{index_key_cmp, same_index_key}

pub data Logged : Type 0 where
  Write : Event → Logged
  Reap : ℕ → Logged

-- what was done to an index, in order
abbrev pub IndexLog : Type 0
IndexLog = List Logged

-- what comes later in the log ends an event
abbrev pub ends : Event → Logged → Bool
ends event (Write later) = same_index_key event later
ends event (Reap t) = is_late t event

abbrev pub is_live : Event → IndexLog → Bool
is_live event later = not (ends_key event || list_any (ends event) later)

-- the live events of a log, in the order in which they were written
abbrev pub kept : IndexLog → List Event
kept [] = []
kept (Write event ∷ later) = if is_live event later then event ∷ kept later else kept later
kept (Reap t ∷ later) = kept later

-- an event put in before the first event that comes after it in key order
abbrev pub placed : Event → List Event → List Event
placed event [] = event ∷ []
placed event (first ∷ events) =
    if is_lt (index_key_cmp event first) then event ∷ (first ∷ events) else first ∷ placed event events

-- events put in one after another
abbrev pub placed_onto : List Event → List Event → List Event
placed_onto sorted [] = sorted
placed_onto sorted (event ∷ events) = placed_onto (placed event sorted) events

-- the live events of a log, in key order
unfoldable pub live_events : IndexLog → List Event
live_events log = placed_onto [] (kept log)

-- the events of other keys
abbrev pub elsewhere : Event → List Event → List Event
elsewhere event = filter (λ other. not (same_index_key other event))

-- what the live events become by a write
abbrev pub written : Event → List Event → List Event
written event events = if ends_key event then elsewhere event events else placed event (elsewhere event events)

-- what the live events become by a reap
abbrev pub reaped : ℕ → List Event → List Event
reaped t = filter (λ event. not (is_late t event))

abbrev pub WritesAreLive : Type 0
WritesAreLive =
    (log : IndexLog) (event : Event) → live_events (log ++ Write event ∷ []) ≡ written event (live_events log)

abbrev pub ReapsAreLive : Type 0
ReapsAreLive = (log : IndexLog) (t : ℕ) → live_events (log ++ Reap t ∷ []) ≡ reaped t (live_events log)

-- no live event ends its key, so a reap ends exactly what is expired at its moment
abbrev pub ReapsEndExpired : Type 0
ReapsEndExpired = (log : IndexLog) (t : ℕ)
    → live_events (log ++ Reap t ∷ []) ≡ filter (λ event. not (is_expired t event)) (live_events log)

-- the live events are in key order, and each key has one
abbrev pub LiveEventsRise : Type 0
LiveEventsRise = (log : IndexLog) → IsStrictlySortedBy index_key_cmp (live_events log)

-- the live events are those that were written and not ended, each as often, in another order
abbrev pub LiveEventsAreKept : Type 0
LiveEventsAreKept = (log : IndexLog) → IsPermutation (kept log) (live_events log)
