-- What the state of a kind of stream is, of what came, and what it passes on.
use Rattle.std.specs.Prelude.{◌≡◌, ℕ, ◌++◌, Bool, true, false, List}
use Rattle.ev_types.specs.declared.item.Emission.{Emission as CodeEmission}
use Rattle.ev_types.specs.declared.item.Item.{Item}
use Rattle.flow_streams.specs.Changed.{changed_kind, ChangedRepresents, is_poisoned as changed_poisoned}
use Rattle.flow_streams.specs.Runs.{runs_kind, RunsRepresents, is_poisoned as runs_poisoned}
use Rattle.rate_streams.specs.Throttle.{throttle_kind, throttle_poisoned, ThrottleRepresents}
use Rattle.rate_streams.specs.Rollup.{rollup_kind, rollup_poisoned, RollupRepresents}
use Rattle.rate_streams.specs.Batch.{batch_kind, batch_poisoned, BatchRepresents}
use Rattle.rate_streams.specs.Stable.{stable_kind, stable_poisoned, StableRepresents}
use Rattle.window_streams.specs.FixedEvent.{fixed_event_kind, fixed_event_poisoned, FixedEventRepresents}
use Rattle.window_streams.specs.MovingEvent.{moving_event_kind, moving_event_poisoned, MovingEventRepresents}
use Rattle.window_streams.specs.FixedTime.{fixed_time_kind, fixed_time_poisoned, FixedTimeRepresents}
use Rattle.window_streams.specs.MovingTime.{moving_time_kind, moving_time_poisoned, MovingTimeRepresents}
use Rattle.window_streams.specs.Coalesce.{coalesce_kind, coalesce_poisoned, CoalesceRepresents}
use Rattle.stream_meaning.specs.Emission.{Emission, to_children}
use Rattle.stream_meaning.specs.Emitted.{emitted}
use Rattle.stream_meaning.specs.History.{History, begun, TicksAlone}
use Rattle.stream_plan.specs.Tree.{KindTree, Index, Notice, Sdo, Where, With, Default, Tag, By, Smap}
use Rattle.stream_states.specs.declared.kept.KeptState.{KeptState}
use Rattle.stream_states.specs.declared.kept.KeptState.TheVariants.{Changed, Runs, Throttle, Rollup, Batch, Stable}
use Rattle.stream_states.specs.declared.kept.KeptState.TheVariants.{FixedEvent, MovingEvent, FixedTime, MovingTime}
use Rattle.stream_states.specs.declared.kept.KeptState.TheVariants.{Coalesce}

-- a stream of the kind needs to know what came before
abbrev pub keeps : KindTree → Bool
keeps Index = false
keeps (Notice name) = false
keeps Sdo = false
keeps (Where rule) = false
keeps (With sets) = false
keeps (Default sets) = false
keeps (Tag tags) = false
keeps (By fields idle) = false
keeps (Smap fold) = false
keeps _ = true

-- the kind of the stream whose state it is
abbrev pub kept_kind : KeptState → KindTree
kept_kind (Changed state) = changed_kind state
kept_kind (Runs state) = runs_kind state.value
kept_kind (Throttle state) = throttle_kind state
kept_kind (Rollup state) = rollup_kind state
kept_kind (Batch state) = batch_kind state
kept_kind (Stable state) = stable_kind state.value
kept_kind (FixedEvent state) = fixed_event_kind state
kept_kind (MovingEvent state) = moving_event_kind state
kept_kind (FixedTime state) = fixed_time_kind state
kept_kind (MovingTime state) = moving_time_kind state
kept_kind (Coalesce state) = coalesce_kind state

-- it ran out of memory
abbrev pub kept_poisoned : KeptState → Bool
kept_poisoned (Changed state) = changed_poisoned state
kept_poisoned (Runs state) = runs_poisoned state.value
kept_poisoned (Throttle state) = throttle_poisoned state
kept_poisoned (Rollup state) = rollup_poisoned state
kept_poisoned (Batch state) = batch_poisoned state
kept_poisoned (Stable state) = stable_poisoned state.value
kept_poisoned (FixedEvent state) = fixed_event_poisoned state
kept_poisoned (MovingEvent state) = moving_event_poisoned state
kept_poisoned (FixedTime state) = fixed_time_poisoned state
kept_poisoned (MovingTime state) = moving_time_poisoned state
kept_poisoned (Coalesce state) = coalesce_poisoned state

-- the state has what a stream of its kind has to know of this history
abbrev pub HasHistory : KeptState → History → Type 0
HasHistory (Changed state) h = ChangedRepresents state h
HasHistory (Runs state) h = RunsRepresents state.value h
HasHistory (Throttle state) h = ThrottleRepresents state h
HasHistory (Rollup state) h = RollupRepresents state h
HasHistory (Batch state) h = BatchRepresents state h
HasHistory (Stable state) h = StableRepresents state.value h
HasHistory (FixedEvent state) h = FixedEventRepresents state h
HasHistory (MovingEvent state) h = MovingEventRepresents state h
HasHistory (FixedTime state) h = FixedTimeRepresents state h
HasHistory (MovingTime state) h = MovingTimeRepresents state h
HasHistory (Coalesce state) h = CoalesceRepresents state h

-- the state is that of a stream of this kind to which all of this history has come
pub record KeptRepresents (kind : KindTree) (state : KeptState) (h : History) : Type 0 where
  pub same_kind : kept_kind state ≡ kind
  pub history : HasHistory state h

-- the state of a stream of this kind to which nothing but ticks has come since this moment
pub record IsFresh (kind : KindTree) (start : ℕ) (state : KeptState) : Type 0 where
  pub same_kind : kept_kind state ≡ kind
  pub represents : (h : History) → TicksAlone h → begun h ≡ start → KeptRepresents kind state h

-- these emissions are appended, each to the children
pub record Passes (before after : List CodeEmission) (meant : List Emission) : Type 0 where
  pub items : List Item
  pub appended : after ≡ before ++ emitted items
  pub passed : meant ≡ to_children items
