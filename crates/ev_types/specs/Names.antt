-- The names of fields.
use Rattle.std.specs.Prelude.{ℕ, Bool, ◌||◌, if◌then◌else◌, List, Option, Some, None, codes}
use Rattle.std.specs.Option.{option_or}
use Rattle.std.specs.Str.{bytes_eq}
use Rattle.ev_types.specs.declared.field.Field.{Field}
use Rattle.ev_types.specs.declared.field.Field.TheVariants.{Host, Service, State, Description, Time, Ttl, Metric}
use Rattle.ev_types.specs.declared.field.Field.TheVariants.{Attribute}

abbrev pub field_name : Field → List ℕ
field_name Host = codes "host"
field_name Service = codes "service"
field_name State = codes "state"
field_name Description = codes "description"
field_name Time = codes "time"
field_name Ttl = codes "ttl"
field_name Metric = codes "metric"
field_name (Attribute key) = key

abbrev pub has_name : List ℕ → Field → Option Field → Option Field
has_name name field other = if bytes_eq name (field_name field) then Some field else other

-- the fields that the protocol names, by their names
unfoldable pub protocol_field : List ℕ → Option Field
protocol_field name =
    has_name name Host
    (has_name name Service
    (has_name name State
    (has_name name Description
    (has_name name Time
    (has_name name Ttl
    (has_name name Metric None))))))

-- these names of the protocol mean no field
abbrev pub is_hidden : List ℕ → Bool
is_hidden name =
    bytes_eq name (codes "metric_f") || bytes_eq name (codes "metric_d") || bytes_eq name (codes "time_micros")
    || bytes_eq name (codes "tags")

-- the field that a name means
unfoldable pub named_field : List ℕ → Option Field
named_field name =
    option_or (protocol_field name)
    (if bytes_eq name (codes "metric_sint64") then Some Metric
    else (if is_hidden name then None
    else Some (Attribute name)))
