-- What an event becomes when a field of it is set, or a tag is added.
use Rattle.std.specs.Prelude.{ℕ, ℤ, pos, nat_abs, int_le, Bool, true, false, not, ◌&&◌, if◌then◌else◌, List, [], ◌∷◌}
use Rattle.std.specs.Prelude.{◌++◌, Option, Some, None, unwrap_or, option_map, filter}
use Rattle.std.specs.List.{list_all, list_any}
use Rattle.std.specs.Str.{bytes_eq}
use Rattle.ev_types.specs.declared.event.Event.{Event}
use Rattle.ev_types.specs.declared.event.Attr.{Attr}
use Rattle.ev_types.specs.declared.field.Field.{Field}
use Rattle.ev_types.specs.declared.field.Field.TheVariants.{Host, Service, State, Description, Time, Ttl, Metric}
use Rattle.ev_types.specs.declared.field.Field.TheVariants.{Attribute}
use Rattle.ev_types.specs.declared.change.TheConstants.{MAX_TTL}
use Rattle.ev_types.specs.declared.settings.Set.{Set}
use Rattle.ev_types.specs.declared.value.Value.{Value}
use Rattle.ev_types.specs.declared.value.Value.TheVariants.{Nil, Number, Text}
use Rattle.ev_types.specs.Value.{number_of, text_of}

-- an event that holds nothing but its time
abbrev pub event_at : ℤ → Event
event_at time = record {
  host = None;
  service = None;
  state = None;
  description = None;
  tags = [];
  time = time;
  time_micros = None;
  ttl = None;
  metric = None;
  raw_d = None;
  raw_f = None;
  attributes = [];
}

-- a text field takes a text or nil
abbrev pub fits_text : Value → Bool
fits_text Nil = true
fits_text (Number n) = false
fits_text (Text t) = true

-- only a number fits the time
abbrev pub fits_time : Value → Bool
fits_time Nil = false
fits_time (Number n) = true
fits_time (Text t) = false

-- nil or a number of seconds from 0 to MAX_TTL fits the ttl
abbrev pub fits_ttl : Value → Bool
fits_ttl Nil = true
fits_ttl (Number n) = int_le (pos 0) n && int_le n MAX_TTL
fits_ttl (Text t) = false

-- a number or nil fits the metric
abbrev pub fits_metric : Value → Bool
fits_metric Nil = true
fits_metric (Number n) = true
fits_metric (Text t) = false

-- the field can be set to the value
abbrev pub fits : Field → Value → Bool
fits Host = fits_text
fits Service = fits_text
fits State = fits_text
fits Description = fits_text
fits Time = fits_time
fits Ttl = fits_ttl
fits Metric = fits_metric
fits (Attribute key) = fits_text

-- the attributes of other keys
abbrev pub other_attributes : List ℕ → List Attr → List Attr
other_attributes key = filter (λ attribute. not (bytes_eq attribute.key key))

-- the one attribute that holds the text under the key, or none
abbrev pub attribute_of : List ℕ → Option (List ℕ) → List Attr
attribute_of key None = []
attribute_of key (Some text) = record { key = key; value = Some text } ∷ []

-- each value fits its field
abbrev pub all_fit : List Set → Bool
all_fit = list_all (λ set. fits set.field set.value)

-- the event with the value in the field, which it fits; what says the same in another form is removed
abbrev pub with_fitting : Event → Field → Value → Event
with_fitting event Host value = record event { host = text_of value }
with_fitting event Service value = record event { service = text_of value }
with_fitting event State value = record event { state = text_of value }
with_fitting event Description value = record event { description = text_of value }
with_fitting event Time value = record event { time = unwrap_or (number_of value) event.time; time_micros = None }
with_fitting event Ttl value = record event { ttl = option_map nat_abs (number_of value) }
with_fitting event Metric value = record event { metric = number_of value; raw_d = None; raw_f = None }
with_fitting event (Attribute key) value =
    record event { attributes = other_attributes key event.attributes ++ attribute_of key (text_of value) }

-- the event with the value in the field; a value that does not fit leaves it as it is
abbrev pub with_set : Event → Field → Value → Event
with_set event field value = if fits field value then with_fitting event field value else event

-- the text is one of the texts
abbrev pub has_text : List ℕ → List (List ℕ) → Bool
has_text wanted = list_any (λ text. bytes_eq text wanted)

-- the event with the tag, after those that it has
abbrev pub with_tag : Event → List ℕ → Event
with_tag event tag = if has_text tag event.tags then event else record event { tags = event.tags ++ tag ∷ [] }
