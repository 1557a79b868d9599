-- Configurations whose keys are apart: what comes of one key changes nothing for another. A key is what some fields
-- hold, each of them the host or the service.
use Rattle.std.specs.Prelude.{Bool, true, false, ◌&&◌, ◌||◌, List, Option, Some, None}
use Rattle.std.specs.List.{list_all, list_any}
use Rattle.ev_types.specs.declared.field.Field.{Field}
use Rattle.ev_types.specs.declared.settings.Expiry.{Expiry}
use Rattle.ev_types.specs.declared.settings.KeepKey.{KeepKey}
use Rattle.ev_types.specs.Rebirth.{names}
use Rattle.index_log.specs.OfKey.{are_index_fields}
use Rattle.stream_plan.specs.Tree.{KindTree, Index, Notice, Sdo, Where, With, Default, Tag, By, StreamTree, StreamTrees}
use Rattle.stream_plan.specs.Tree.{stream, none, also}
use Rattle.stream_meaning.specs.Keys.{same_index_field, kind_keeps, plan_keeps}

-- the field is among what expired events keep
abbrev pub keeps_field : List KeepKey → Field → Bool
keeps_field keep field = list_any (names field) keep

-- events that expire keep the fields as they come again
abbrev pub expiry_keeps : List Field → Option Expiry → Bool
expiry_keeps fields None = true
expiry_keeps fields (Some expiry) = list_all (keeps_field expiry.keep) fields

-- other fields have all the fields
abbrev pub has_all : List Field → List Field → Bool
has_all fields others = list_all (λ field. list_any (same_index_field field) others) fields

-- the stream is a `by` that has all the fields: what comes to one of its forks is of one key
abbrev pub splits : List Field → KindTree → Bool
splits fields (By others idle) = has_all fields others
splits fields _ = false

-- a stream of this kind keeps nothing: what it does with an event depends on this event alone
abbrev pub keeps_nothing : KindTree → Bool
keeps_nothing Index = true
keeps_nothing (Notice name) = true
keeps_nothing Sdo = true
keeps_nothing (Where rule) = true
keeps_nothing (With sets) = true
keeps_nothing (Default sets) = true
keeps_nothing (Tag tags) = true
keeps_nothing _ = false

-- no stream sets one of the fields, and every stream that keeps something is below a `by` that has all of them
abbrev mutual
  pub stream_apart : List Field → StreamTree → Bool
  stream_apart fields (stream kind children otherwise) =
      (splits fields kind && (plan_keeps fields children && plan_keeps fields otherwise))
      || (keeps_nothing kind && (kind_keeps fields kind && (plan_apart fields children && plan_apart fields otherwise)))

  pub plan_apart : List Field → StreamTrees → Bool
  plan_apart fields none = true
  plan_apart fields (also first more) = stream_apart fields first && plan_apart fields more

-- so it is in the plan, and events that expire keep the fields
abbrev pub keys_apart : List Field → StreamTrees → Option Expiry → Bool
keys_apart fields plan expiry = are_index_fields fields && (plan_apart fields plan && expiry_keeps fields expiry)
