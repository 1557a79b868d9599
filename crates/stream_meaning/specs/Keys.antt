-- The key of what streams take and give, and the streams that leave the fields of a key as they are.
use Rattle.std.specs.Prelude.{Bool, true, false, not, ◌&&◌, List, [], ◌∷◌}
use Rattle.std.specs.List.{list_all, list_any}
use Rattle.ev_types.specs.declared.field.Field.{Field}
use Rattle.ev_types.specs.declared.field.Field.TheVariants.{Host, Service}
use Rattle.ev_types.specs.declared.item.Item.{Item}
use Rattle.ev_types.specs.declared.item.Item.TheVariants.{One, Many}
use Rattle.ev_types.specs.declared.item.Notice.{Notice}
use Rattle.ev_types.specs.declared.item.Output.{Output}
use Rattle.ev_types.specs.declared.item.Output.TheVariants.{Notice as notice, Write as write}
use Rattle.ev_types.specs.declared.settings.Set.{Set}
use Rattle.ev_types.specs.declared.value.Value.{Value}
use Rattle.index_log.specs.OfKey.{event_has}
use Rattle.stream_plan.specs.Tree.{KindTree, With, Default, StreamTree, StreamTrees, stream, none, also}

-- the item is one event of the key, or a vector of at least one event, all of the key
abbrev pub item_has : List Field → List Value → Item → Bool
item_has fields key (One event) = event_has fields key event
item_has fields key (Many []) = false
item_has fields key (Many (event ∷ es)) = event_has fields key event && list_all (event_has fields key) es

-- the key of a notice is that of its item
abbrev pub notice_has : List Field → List Value → Notice → Bool
notice_has fields key given = item_has fields key given.item

-- the key of a write is that of its event
abbrev pub output_has : List Field → List Value → Output → Bool
output_has fields key (notice given) = notice_has fields key given
output_has fields key (write event) = event_has fields key event

-- both fields are the host, or both the service
abbrev pub same_index_field : Field → Field → Bool
same_index_field Host Host = true
same_index_field Service Service = true
same_index_field _ _ = false

-- one of the fields, each the host or the service, is set
abbrev pub sets_one : List Field → List Set → Bool
sets_one fields = list_any (λ set. list_any (same_index_field set.field) fields)

-- a stream of this kind passes on events that hold in the fields what they held
abbrev pub kind_keeps : List Field → KindTree → Bool
kind_keeps fields (With sets) = not (sets_one fields sets)
kind_keeps fields (Default sets) = not (sets_one fields sets)
kind_keeps fields _ = true

-- so do all streams of a plan
abbrev mutual
  pub stream_keeps : List Field → StreamTree → Bool
  stream_keeps fields (stream kind children otherwise) =
      kind_keeps fields kind && (plan_keeps fields children && plan_keeps fields otherwise)

  pub plan_keeps : List Field → StreamTrees → Bool
  plan_keeps fields none = true
  plan_keeps fields (also first more) = stream_keeps fields first && plan_keeps fields more
