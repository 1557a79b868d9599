-- What windows by the events' own times pass on, by what the greatest of some numbers is and not how it is computed.
use Rattle.std.specs.Prelude.{◌≡◌, ℕ, ℤ, pos, ◌+ℤ◌, ◌*ℤ◌, ◌<◌, ◌<ℤ◌, ◌≤ℤ◌, int_lt, if◌then◌else◌, List, [], ◌∷◌, map}
use Rattle.std.specs.Prelude.{filter, All, Contains}
use Rattle.std.specs.Ordering.{int_eq}
use Rattle.ev_types.specs.declared.event.Event.{Event}
use Rattle.ev_types.specs.declared.item.Item.TheVariants.{One}
use Rattle.stream_meaning.specs.History.{History, ◌▸◌, In}
use Rattle.stream_meaning.specs.Came.{events, vector}
use Rattle.stream_meaning.specs.Windows.{greatest, time_of, is_recent, moving_time_items, stretch_of, fixed_time_items}

-- one of the numbers, and none of them is greater
pub record IsGreatest (numbers : List ℤ) (top : ℤ) : Type 0 where
  pub among : Contains numbers top
  pub bound : All (λ number. number ≤ℤ top) numbers

abbrev pub GreatestIsReached : Type 0
GreatestIsReached = (first : ℤ) (more : List ℤ) → IsGreatest (first ∷ more) (greatest first more)

-- moving time window: with the greatest time of all events up to this one
abbrev pub MovingTimeGoesByTheGreatest : Type 0
MovingTimeGoesByTheGreatest = (secs : ℕ) (h : History) (event : Event) (latest : ℤ) →
    let came = events (h ▸ In (One event)) in
    IsGreatest (map time_of came) latest →
    moving_time_items secs (h ▸ In (One event))
    ≡ (if is_recent secs latest event then vector (filter (is_recent secs latest) came) else [])

-- fixed time window: with the greatest number of a stretch among the events before this one
abbrev pub FixedTimeGoesByTheGreatest : Type 0
FixedTimeGoesByTheGreatest = (secs : ℕ) (h : History) (event first : Event) (more : List Event) (latest : ℤ) →
    events h ≡ first ∷ more → IsGreatest (map (stretch_of secs first) (events h)) latest →
    fixed_time_items secs (h ▸ In (One event))
    ≡ (if int_lt latest (stretch_of secs first event)
    then vector (filter (λ other. int_eq (stretch_of secs first other) latest) (events h)) else [])

-- An event's stretch begins as many whole stretches after the first event as its number says, and lasts `secs` seconds.
-- The event's time lies in it.
pub record LiesInStretch (secs : ℕ) (first event : Event) (number : ℤ) : Type 0 where
  pub from : (first.time +ℤ number *ℤ pos secs) ≤ℤ event.time
  pub until : event.time <ℤ (first.time +ℤ number *ℤ pos secs +ℤ pos secs)

abbrev pub EventsLieInTheirStretch : Type 0
EventsLieInTheirStretch =
    (secs : ℕ) (first event : Event) → 0 < secs → LiesInStretch secs first event (stretch_of secs first event)
