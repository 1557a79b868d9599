-- What a run of a field is, apart from how it is computed.
use Rattle.std.specs.Prelude.{◌≡◌, ◌≤◌, ℕ, IsTrue, List, [], ◌∷◌, ◌++◌, map, length}
use Rattle.std.specs.List.{list_all}
use Rattle.ev_types.specs.declared.event.Event.{Event}
use Rattle.ev_types.specs.declared.field.Field.{Field}
use Rattle.ev_types.specs.declared.value.Value.{Value}
use Rattle.stream_meaning.specs.History.{History, begun}
use Rattle.stream_meaning.specs.Came.{Timed, events, timed_events}
use Rattle.stream_meaning.specs.Coalesce.{event_of}
use Rattle.stream_meaning.specs.Runs.{holds_value, run, run_began}

-- each of the events holds the value in the field
abbrev pub all_hold : Field → Value → List Event → Type 0
all_hold field value es = IsTrue (list_all (holds_value field value) es)

-- the longest suffix of the events in which the field holds one value
pub record IsLongestRun (field : Field) (es last : List Event) : Type 0 where
  pub earlier : List Event
  pub suffix : es ≡ earlier ++ last
  pub value : Value
  pub same : all_hold field value last
  pub longest : (other : Value) (front back : List Event) → es ≡ front ++ back → all_hold field other back
      → length back ≤ length last

abbrev pub RunsAreLongest : Type 0
RunsAreLongest = (field : Field) (h : History) → IsLongestRun field (events h) (run field h)

-- the moment of the first event, or where the history begins if there is none
abbrev pub first_moment : ℕ → List Timed → ℕ
first_moment start [] = start
first_moment start (timed ∷ more) = timed.at

-- the events of the run with their moments, and the first of those
pub record RunBegins (field : Field) (h : History) : Type 0 where
  pub earlier : List Timed
  pub last : List Timed
  pub suffix : timed_events h ≡ earlier ++ last
  pub events_are : map event_of last ≡ run field h
  pub began : run_began field h ≡ first_moment (begun h) last

abbrev pub RunsBeginWithTheirFirst : Type 0
RunsBeginWithTheirFirst = (field : Field) (h : History) → RunBegins field h
