-- The moments of the history of a key.
use Rattle.std.proofs.Common.{◌+◌, Bool, true, false, cond, List, refl, ap}
use Rattle.ev_types.specs.declared.event.Event.{Event}
use Rattle.ev_types.specs.declared.field.Field.{Field}
use Rattle.ev_types.specs.declared.item.Item.TheVariants.{One, Many}
use Rattle.ev_types.specs.declared.value.Value.{Value}
use Rattle.index_log.specs.OfKey.{event_has}
use Rattle.stream_meaning.specs.declared.entry.Entry.TheVariants.{Tick, Item as In}
use Rattle.stream_meaning.specs.History.{History, since, ◌▸◌}
use Rattle.stream_meaning.specs.Laws.{of_key, SameMoments}

either_moments : (t : Bool) (event : Event) (g h : History) → SameMoments g h
    → SameMoments (cond t (g ▸ In (One event)) g) h
either_moments true event g h same = record { begins = same.begins; ends = same.ends }
either_moments false event g h same = same

pub key_moments : (fields : List Field) (key : List Value) (h : History) → SameMoments (of_key fields key h) h
key_moments fields key (since start) = record { begins = refl; ends = refl }
key_moments fields key (h ▸ Tick) =
    let same = key_moments fields key h in record { begins = same.begins; ends = ap (λ n. n + 1) same.ends }
key_moments fields key (h ▸ In (One event)) =
    let same = key_moments fields key h in
    let longer = either_moments (event_has fields key event) event (of_key fields key h) h same in
    record { begins = longer.begins; ends = longer.ends }
key_moments fields key (h ▸ In (Many es)) =
    let same = key_moments fields key h in record { begins = same.begins; ends = same.ends }
