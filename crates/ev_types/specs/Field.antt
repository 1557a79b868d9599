-- What an event holds in a field.
use Rattle.std.specs.Prelude.{ℕ, ℤ, pos, List, Option, Some, None, reverse}
use Rattle.std.specs.List.{find}
use Rattle.std.specs.Option.{option_and_then, option_map}
use Rattle.std.specs.Str.{bytes_eq}
use Rattle.ev_types.specs.declared.event.Event.{Event}
use Rattle.ev_types.specs.declared.event.Attr.{Attr}
use Rattle.ev_types.specs.declared.field.Field.{Field}
use Rattle.ev_types.specs.declared.field.Field.TheVariants.{Host, Service, State, Description, Time, Ttl, Metric}
use Rattle.ev_types.specs.declared.field.Field.TheVariants.{Attribute}
use Rattle.ev_types.specs.declared.value.Value.{Value}
use Rattle.ev_types.specs.declared.value.Value.TheVariants.{Nil, Number, Text}

-- a text that may be absent, as a value
abbrev pub text_value : Option (List ℕ) → Value
text_value None = Nil
text_value (Some text) = Text text

-- a number that may be absent, as a value
abbrev pub number_value : Option ℤ → Value
number_value None = Nil
number_value (Some number) = Number number

-- the last attribute with the key, where there is one
abbrev pub last_attribute : List ℕ → List Attr → Option Attr
last_attribute key attributes = find (λ attribute. bytes_eq attribute.key key) (reverse attributes)

-- what that attribute holds: nothing where it has no value, or there is none
abbrev pub attribute_text : List ℕ → List Attr → Option (List ℕ)
attribute_text key attributes = option_and_then (λ attribute. attribute.value) (last_attribute key attributes)

-- the value of a field of the event, Nil where it is absent
abbrev pub field_value : Event → Field → Value
field_value event Host = text_value event.host
field_value event Service = text_value event.service
field_value event State = text_value event.state
field_value event Description = text_value event.description
field_value event Time = Number event.time
field_value event Ttl = number_value (option_map pos event.ttl)
field_value event Metric = number_value event.metric
field_value event (Attribute key) = text_value (attribute_text key event.attributes)
