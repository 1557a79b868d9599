-- What the state of a `changed` stream represents.
use Rattle.std.specs.Prelude.{◌≡◌, Bool, false, List}
use Rattle.ev_types.specs.declared.item.Item.{Item}
use Rattle.stream_plan.specs.Tree.{KindTree, Changed}
use Rattle.stream_meaning.specs.History.{History}
use Rattle.stream_meaning.specs.Runs.{last_value, changed_items}
use Rattle.flow_streams.specs.declared.changed.ChangedState.{ChangedState}

abbrev pub changed_kind : ChangedState → KindTree
changed_kind s = Changed s.field s.init.value

-- what it passes on at the last entry
abbrev pub changed_at : ChangedState → History → List Item
changed_at s = changed_items s.field s.init.value

-- it ran out of memory
abbrev pub is_poisoned : ChangedState → Bool
is_poisoned s = s.poisoned

pub record ChangedRepresents (s : ChangedState) (h : History) : Type 0 where
  pub sound : s.poisoned ≡ false
  pub last : s.last ≡ last_value s.field s.init.value h
