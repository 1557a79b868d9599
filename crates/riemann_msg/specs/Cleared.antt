-- Events that hold nothing.
use Rattle.std.specs.Prelude.{◌≡◌, List, length, pos, replicate}
use Rattle.ev_types.specs.declared.event.Event.{Event}
use Rattle.ev_types.specs.Set.{event_at}

-- each event holds nothing, and its time is 0
abbrev pub AreCleared : List Event → Type 0
AreCleared events = events ≡ replicate (length events) (event_at (pos 0))
