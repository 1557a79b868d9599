-- What the state of a `runs` stream represents.
use Rattle.std.specs.Prelude.{◌≡◌, min, Bool, false, List, None, length}
use Rattle.ev_types.specs.declared.item.Item.{Item}
use Rattle.stream_plan.specs.Tree.{KindTree, Runs}
use Rattle.stream_meaning.specs.History.{History}
use Rattle.stream_meaning.specs.Runs.{last_value, run, runs_items}
use Rattle.flow_streams.specs.declared.runs.RunsState.{RunsState}

abbrev pub runs_kind : RunsState → KindTree
runs_kind s = Runs s.params.count s.params.field

-- what it passes on at the last entry
abbrev pub runs_at : RunsState → History → List Item
runs_at s = runs_items s.params.count s.params.field

-- it ran out of memory
abbrev pub is_poisoned : RunsState → Bool
is_poisoned s = s.poisoned

pub record RunsRepresents (s : RunsState) (h : History) : Type 0 where
  pub sound : s.poisoned ≡ false
  pub last : s.last ≡ last_value s.params.field None h
  pub length : s.length ≡ min s.params.count (length (run s.params.field h))
