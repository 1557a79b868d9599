-- Events that are kept as their bytes.
use Rattle.std.specs.Prelude.{◌≡◌, ℕ, ◌^◌, ◌<◌, ◌≤◌, List, drop, length, Option, Some, pos, FitsSigned, IfSome}
use Rattle.std.specs.Int.{w64}
use Rattle.std.specs.List.{AllByRecursion}
use Rattle.std.specs.Str.{IsUtf8}
use Rattle.ev_types.specs.declared.event.Event.{Event}
use Rattle.riemann_msg.specs.ReadBack.{IsWellFormedAttribute, IsWellFormedEvent}
use Rattle.riemann_msg.specs.Spelling.{event_values, spelled}
use Rattle.riemann_msg.specs.Value.{event_of}
use Rattle.packed_event.specs.Packed.{IsPacked}
use Rattle.packed_event.specs.Reading.{◌>>=◌, names_part}
use Rattle.packed_event.specs.declared.places.Places.{Places}
use Rattle.packed_event.specs.declared.pack.PackFault.{PackFault}
use Rattle.packed_event.specs.declared.pack.PackFault.TheVariants.{Unspellable, TooLong, Memory}

-- the bytes that are written for the event
abbrev pub bytes_of : Event → List ℕ
bytes_of event = spelled (event_values event)

-- the event that the bytes are read as. Kept bytes have its time, so the moment of reading does not matter
abbrev pub event_in : List ℕ → Event
event_in bytes = event_of (pos 0) bytes

-- the bytes that begin with the tags, after the time and the texts at the start of an event
unfoldable pub tags_start : List ℕ → Option (List ℕ)
tags_start bytes = do
  names ← names_part (length bytes) bytes
  Some names.1

-- the bytes are kept, with the places of the event's parts
pub record IsKept (bytes : List ℕ) (places : Places) : Type 0 where
  pub packed : IsPacked bytes places (event_in bytes)
  pub few : length bytes < 2 ^ 32
  pub tags : tags_start bytes ≡ Some (drop places.tags bytes)
  pub tags_within : places.tags ≤ length bytes

-- the event is not packed for this cause. Memory may run out at any time
abbrev pub IsUnpackable : Event → PackFault → Type 0
IsUnpackable event Unspellable = IsWellFormedEvent event → ⊥
IsUnpackable event TooLong = 2 ^ 32 ≤ length (bytes_of event)
IsUnpackable event Memory = Unit {0}

-- what the types of an event's fields say of their values: a word of private functions, which no public clause cites
pub record HasTypes (event : Event) : Type 0 where
  pub host : IfSome event.host IsUtf8
  pub service : IfSome event.service IsUtf8
  pub state : IfSome event.state IsUtf8
  pub description : IfSome event.description IsUtf8
  pub tags : AllByRecursion IsUtf8 event.tags
  pub attributes : AllByRecursion IsWellFormedAttribute event.attributes
  pub time : FitsSigned w64 event.time
  pub time_micros : IfSome event.time_micros (FitsSigned w64)
  pub metric : IfSome event.metric (FitsSigned w64)
  pub raw_d : IfSome event.raw_d (λ bits. bits < 2 ^ 64)
  pub raw_f : IfSome event.raw_f (λ bits. bits < 2 ^ 32)
