-- What is left of an event that has expired.
use Rattle.std.specs.Prelude.{ℕ, pos, codes, Bool, true, false, not, if◌then◌else◌, List, [], ◌∷◌, Option, Some, None}
use Rattle.std.specs.Prelude.{◌++◌, option_map, option_to_list, filter, filter_map}
use Rattle.std.specs.List.{list_any}
use Rattle.std.specs.Str.{bytes_eq}
use Rattle.ev_types.specs.declared.event.Event.{Event}
use Rattle.ev_types.specs.declared.event.Attr.{Attr}
use Rattle.ev_types.specs.declared.field.Field.{Field}
use Rattle.ev_types.specs.declared.field.Field.TheVariants.{Host, Service, State, Description, Time, Ttl, Metric}
use Rattle.ev_types.specs.declared.field.Field.TheVariants.{Attribute}
use Rattle.ev_types.specs.declared.settings.KeepKey.{KeepKey}
use Rattle.ev_types.specs.declared.settings.KeepKey.TheVariants.{Field as field, Tags as tags}
use Rattle.ev_types.specs.Field.{attribute_text}

-- this one names the field
abbrev pub names : Field → KeepKey → Bool
names Host (field Host) = true
names Service (field Service) = true
names State (field State) = true
names Description (field Description) = true
names Time (field Time) = true
names Ttl (field Ttl) = true
names Metric (field Metric) = true
names (Attribute key) (field (Attribute kept)) = bytes_eq kept key
names _ _ = false

-- this one names the tags
abbrev pub names_tags : KeepKey → Bool
names_tags tags = true
names_tags (field f) = false

-- what the event holds in the field, where one of these names it
abbrev pub kept_of : {A : Type 0} → Field → List KeepKey → Option A → Option A
kept_of wanted keep held = if list_any (names wanted) keep then held else None

-- the key of an attribute that is kept
abbrev pub attribute_key : KeepKey → Option (List ℕ)
attribute_key (field (Attribute key)) = Some key
attribute_key _ = None

-- each text once, at its first place in the list
abbrev pub each_once : List (List ℕ) → List (List ℕ)
each_once [] = []
each_once (text ∷ texts) = text ∷ filter (λ other. not (bytes_eq other text)) (each_once texts)

-- the attribute that holds what the event has under the key
abbrev pub kept_attribute : Event → List ℕ → Option Attr
kept_attribute event key =
    option_map (λ text. record { key = key; value = Some text }) (attribute_text key event.attributes)

-- the kept attributes that have a value, each once, in the order in which they are named
abbrev pub kept_attributes : List KeepKey → Event → List Attr
kept_attributes keep event = filter_map (kept_attribute event) (each_once (filter_map attribute_key keep))

-- one of the attributes has the key
abbrev pub has_key : List ℕ → List Attr → Bool
has_key key = list_any (λ attribute. bytes_eq attribute.key key)

-- what was kept, and the attribute of one more key
abbrev pub with_kept : Event → List ℕ → List Attr → List Attr
with_kept event key kept = if has_key key kept then kept else kept ++ option_to_list (kept_attribute event key)

-- the same of a key to keep that names an attribute or none
abbrev pub with_key : Event → Option (List ℕ) → List Attr → List Attr
with_key event None kept = kept
with_key event (Some key) kept = with_kept event key kept

-- the event as it comes again once it has expired: what is kept of it, the state "expired" and the time t
abbrev pub expired_copy : List KeepKey → Event → ℕ → Event
expired_copy keep event t = record {
  host = kept_of Host keep event.host;
  service = kept_of Service keep event.service;
  state = Some (codes "expired");
  description = kept_of Description keep event.description;
  tags = if list_any names_tags keep then event.tags else [];
  time = pos t;
  time_micros = None;
  ttl = kept_of Ttl keep event.ttl;
  metric = kept_of Metric keep event.metric;
  raw_d = None;
  raw_f = None;
  attributes = kept_attributes keep event;
}
