-- Events that are kept as the bytes that this server writes for them, with the places of some parts.
use Rattle.std.specs.Prelude.{◌≡◌, ℕ, ◌+◌, ◌^◌, ◌<◌, ◌≤◌, List, length, IfSome, slice_range, None, pos}
use Rattle.std.specs.Option.{option_map}
use Rattle.ev_types.specs.Expiry.{ends_key}
use Rattle.ev_types.specs.declared.event.Event.{Event}
use Rattle.riemann_msg.specs.Fault.{event_fault}
use Rattle.riemann_msg.specs.ReadBack.{IsWellFormedEvent}
use Rattle.riemann_msg.specs.Spelling.{event_values, spelled}
use Rattle.riemann_msg.specs.Value.{event_of}
use Rattle.packed_event.specs.declared.places.Places.{Places}
use Rattle.packed_event.specs.declared.places.Span.{Span}

-- the bytes at the span
abbrev pub text_at : List ℕ → Span → List ℕ
text_at bytes span = slice_range bytes span.start (span.start + span.len)

-- the span lies within the bytes
abbrev pub LiesIn : List ℕ → Span → Type 0
LiesIn bytes span = span.start + span.len ≤ length bytes

-- these are the bytes of the event, and the places of its parts in them
pub record IsPacked (bytes : List ℕ) (places : Places) (event : Event) : Type 0 where
  pub well_formed : IsWellFormedEvent event
  pub spelled_as : bytes ≡ spelled (event_values event)
  pub host : option_map (text_at bytes) places.host ≡ event.host
  pub service : option_map (text_at bytes) places.service ≡ event.service
  pub host_within : IfSome places.host (LiesIn bytes)
  pub service_within : IfSome places.service (LiesIn bytes)
  pub time : places.time ≡ event.time
  pub ttl : places.ttl ≡ event.ttl
  pub ends : places.ends_key ≡ ends_key event

-- at any moment
abbrev pub PackedEventsAreRead : Type 0
PackedEventsAreRead = (now : ℕ) (bytes : List ℕ) (places : Places) (event : Event) → IsPacked bytes places event
    → length bytes < 2 ^ 32 → (event_fault bytes ≡ None) × (event_of (pos now) bytes ≡ event)
