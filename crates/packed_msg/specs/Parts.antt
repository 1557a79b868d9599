-- What the reader of a message finds: words of a private function. No public clause cites them.
use Rattle.std.specs.Prelude.{◌≡◌, ℕ, List, length, Some, None, pos}
use Rattle.ev_types.specs.declared.event.Event.{Event}
use Rattle.pb_wire.specs.declared.reader.Next.{Next}
use Rattle.pb_wire.specs.declared.reader.Next.TheVariants.{End, Field, Refused}
use Rattle.pb_wire.specs.Fields.{FieldAt, LiesWithin}
use Rattle.pb_wire.specs.Spelling.{content_in}
use Rattle.riemann_msg.specs.Fault.{message_field_fault}
use Rattle.riemann_msg.specs.Spelling.{event_content}
use Rattle.riemann_msg.specs.Value.{event_in}

-- the body of the field lies within the bytes
abbrev pub LiesIn : List ℕ → Next → Type 0
LiesIn bytes End = Unit {0}
LiesIn bytes (Field number body place) = LiesWithin (length bytes) body
LiesIn bytes (Refused place why) = Unit {0}

-- the field holds the event, and has no fault
pub record Holds (bytes : List ℕ) (field : FieldAt) (event : Event) : Type 0 where
  pub number : field.number ≡ 6
  pub clean : message_field_fault bytes field ≡ None
  pub is : (now : ℕ) → event_in (pos now) (content_in bytes field.body) ≡ Some event

-- it is a field that holds the event
abbrev pub HoldsNext : List ℕ → Next → Event → Type 0
HoldsNext bytes End event = ⊥
HoldsNext bytes (Field number body place) event =
    Holds bytes (record { number = number; body = body; place = place }) event
HoldsNext bytes (Refused place why) event = ⊥

-- it is a field that holds the bytes of the event
abbrev pub IsWritten : List ℕ → Next → Event → Type 0
IsWritten bytes End event = ⊥
IsWritten bytes (Field number body place) event = (number ≡ 6) × (content_in bytes body ≡ event_content event)
IsWritten bytes (Refused place why) event = ⊥
