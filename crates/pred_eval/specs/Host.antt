-- The host that a rule asks for.
use Rattle.std.specs.Prelude.{◌≡◌, true, Option, Some, None}
use Rattle.std.specs.Option.{option_or}
use Rattle.ev_types.specs.declared.event.Event.{Event}
use Rattle.ev_types.specs.declared.field.Field.{Field}
use Rattle.ev_types.specs.declared.field.Field.TheVariants.{Host}
use Rattle.ev_types.specs.declared.value.Value.{Value}
use Rattle.ev_types.specs.Field.{text_value}
use Rattle.ev_types.specs.Value.{same_value}
use Rattle.pred_eval.specs.Tree.{Tree, Trees, All, Equal, none, also}
use Rattle.pred_eval.specs.Truth.{holds}

abbrev pub if_host : Field → Value → Option Value
if_host Host value = Some value
if_host field value = None

-- the value that `host = value` asks for
abbrev pub equal_host : Tree → Option Value
equal_host (Equal field value) = if_host field value
equal_host rule = None

abbrev pub first_host : Trees → Option Value
first_host none = None
first_host (also rule rules) = option_or (equal_host rule) (first_host rules)

-- the value that a rule asks for: that of `host = value`, or of the first such part where all parts are to be met
abbrev pub asked_host : Tree → Option Value
asked_host (All rules) = first_host rules
asked_host rule = equal_host rule

-- every event that meets the rule has this host
abbrev pub NeedsHost : Tree → Value → Type 0
NeedsHost rule value = (event : Event) → holds rule event ≡ true → same_value (text_value event.host) value ≡ true
