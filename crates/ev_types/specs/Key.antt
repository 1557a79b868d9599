-- A key: the values of some fields of an event, in their order.
use Rattle.std.specs.Prelude.{◌≡◌, ◌↔◌, IsTrue, Bool, List, map}
use Rattle.std.specs.declared.cmp.Ordering.{Ordering}
use Rattle.std.specs.Cmp.Lexicographic.{pointwise, slice_cmp}
use Rattle.ev_types.specs.declared.event.Event.{Event}
use Rattle.ev_types.specs.declared.field.Field.{Field}
use Rattle.ev_types.specs.declared.value.Value.{Value}
use Rattle.ev_types.specs.Value.{same_value, value_cmp}
use Rattle.ev_types.specs.Field.{field_value}

-- the same number of parts, and each part the same
abbrev pub same_key : List Value → List Value → Bool
same_key = pointwise same_value

-- part by part, and a prefix of a key before the key
abbrev pub key_cmp : List Value → List Value → Ordering
key_cmp = slice_cmp value_cmp

-- the values of the fields
abbrev pub event_key : Event → List Field → List Value
event_key event = map (field_value event)

-- what has the same parts is one key
abbrev pub SameKeysAreEqual : Type 0
SameKeysAreEqual = (a b : List Value) → IsTrue (same_key a b) ↔ (a ≡ b)
