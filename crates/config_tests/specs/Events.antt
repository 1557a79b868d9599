-- The events that maps describe, and the seconds of a test.
use Rattle.std.specs.Prelude.{ℕ, pos, ◌+◌, ◌≤◌, List, [], ◌∷◌, Option, Some, None}
use Rattle.ev_types.specs.declared.event.Event.{Event}
use Rattle.ev_types.specs.declared.settings.Set.{Set}
use Rattle.ev_types.specs.Set.{event_at, with_set}
use Rattle.config_tests.specs.declared.draft.TheConstants.{MAX_SECONDS}
use Rattle.config_tests.specs.declared.entry.Entry.{Entry}
use Rattle.config_tests.specs.declared.entry.Entry.TheVariants as entry
use Rattle.config_tests.specs.declared.entry.Test.{Test}
use Rattle.config_tests.specs.declared.map.Described.{Described}

-- the event once the sets are made, one after another
abbrev pub with_sets : List Set → Event → Event
with_sets [] event = event
with_sets (set ∷ sets) event = with_sets sets (with_set event set.field set.value)

abbrev pub with_tags : Event → Option (List (List ℕ)) → Event
with_tags event None = event
with_tags event (Some tags) = record event { tags = tags }

-- The event that holds what is said, and nothing else but a time. Where nothing is said of its time, that is the
-- moment.
abbrev pub event_of : ℕ → Described → Event
event_of moment described = with_tags (with_sets described.sets (event_at (pos moment))) described.tags

-- how many seconds pass
abbrev pub seconds_of : Entry → ℕ
seconds_of (entry.Tick count) = count
seconds_of (entry.Event event) = 0

abbrev pub seconds_in : List Entry → ℕ
seconds_in [] = 0
seconds_in (one ∷ entries) = seconds_of one + seconds_in entries

-- no more seconds pass in it than in any test
abbrev pub IsShort : Test → Type 0
IsShort test = seconds_in test.entries ≤ MAX_SECONDS
