-- What a stream passes on at the last entry of its history, and to which of its children.
use Rattle.std.specs.Prelude.{ℕ, if◌then◌else◌, List, [], ◌∷◌, map, Option, Some, None}
use Rattle.ev_types.specs.declared.event.Event.{Event}
use Rattle.ev_types.specs.declared.field.Field.{Field}
use Rattle.ev_types.specs.declared.item.Item.{Item}
use Rattle.ev_types.specs.declared.item.Item.TheVariants.{One, Many}
use Rattle.ev_types.specs.declared.settings.Fold.{Fold}
use Rattle.pred_eval.specs.Tree.{Tree}
use Rattle.pred_eval.specs.Truth.{holds}
use Rattle.stream_plan.specs.Tree.{KindTree, Index, Notice, Sdo, Where, With, Default, Tag, By, Changed, Runs, Throttle}
use Rattle.stream_plan.specs.Tree.{Rollup, Batch, Stable, FixedEvent, MovingEvent, FixedTime, MovingTime, Coalesce}
use Rattle.stream_plan.specs.Tree.{Smap}
use Rattle.stream_meaning.specs.History.{History, since, ◌▸◌, Entry, Tick, In}
use Rattle.stream_meaning.specs.Ends.{KeyFork, fork_of}
use Rattle.stream_meaning.specs.Images.{with_sets, with_defaults, with_tags, folded}
use Rattle.stream_meaning.specs.Runs.{changed_items, runs_items, stable_items}
use Rattle.stream_meaning.specs.Rates.{throttle_items, batch_items, rollup_items}
use Rattle.stream_meaning.specs.Windows.{fixed_event_items, moving_event_items, fixed_time_items, moving_time_items}
use Rattle.stream_meaning.specs.Coalesce.{coalesce_items}

-- a branch below a stream: its children, those of `else`, or a fork
pub data Branch : Type 0 where
  Children : Branch
  Otherwise : Branch
  Fork : KeyFork → Branch

pub record Emission : Type 0 where
  pub branch : Branch
  pub item : Item

abbrev pub to : Branch → Item → List Emission
to branch item = record { branch = branch; item = item } ∷ []

-- each item to the children, in order
abbrev pub to_children : List Item → List Emission
to_children = map (λ item. record { branch = Children; item = item })

-- the event that is made of one event, to the children; a vector gives nothing
abbrev pub image_of : (Event → Event) → Entry → List Emission
image_of change Tick = []
image_of change (In (One event)) = to Children (One (change event))
image_of change (In (Many es)) = []

abbrev pub passed : Entry → List Emission
passed Tick = []
passed (In item) = to Children item

abbrev pub routed : Tree → Entry → List Emission
routed rule Tick = []
routed rule (In (One event)) = to (if holds rule event then Children else Otherwise) (One event)
routed rule (In (Many es)) = []

-- each event to the fork of its key
abbrev pub forked : Option ℕ → List Field → History → List Emission
forked idle fields (since start) = []
forked idle fields (h ▸ Tick) = []
forked idle fields (h ▸ In (One event)) = to (Fork (fork_of idle fields event h)) (One event)
forked idle fields (h ▸ In (Many es)) = []

abbrev pub one_of : Option Event → List Emission
one_of None = []
one_of (Some event) = to Children (One event)

abbrev pub fold_of : Fold → Entry → List Emission
fold_of fold Tick = []
fold_of fold (In (One event)) = []
fold_of fold (In (Many es)) = one_of (folded fold es)

-- what a stream that keeps nothing does with an entry, whatever came before
abbrev pub at_entry : (Entry → List Emission) → History → List Emission
at_entry image (since start) = []
at_entry image (h ▸ x) = image x

-- what each kind passes on at the last entry, in order
abbrev pub emissions : KindTree → History → List Emission
emissions Index h = []
emissions (Notice name) h = []
emissions Sdo h = at_entry passed h
emissions (Where rule) h = at_entry (routed rule) h
emissions (With sets) h = at_entry (image_of (with_sets sets)) h
emissions (Default sets) h = at_entry (image_of (with_defaults sets)) h
emissions (Tag tags) h = at_entry (image_of (with_tags tags)) h
emissions (By fields idle) h = forked idle fields h
emissions (Changed field init) h = to_children (changed_items field init h)
emissions (Runs n field) h = to_children (runs_items n field h)
emissions (Throttle n secs) h = to_children (throttle_items n secs h)
emissions (Rollup n secs) h = to_children (rollup_items n secs h)
emissions (Batch n secs) h = to_children (batch_items n secs h)
emissions (Stable secs field) h = to_children (stable_items secs field h)
emissions (FixedEvent n) h = to_children (fixed_event_items n h)
emissions (MovingEvent n) h = to_children (moving_event_items n h)
emissions (FixedTime secs) h = to_children (fixed_time_items secs h)
emissions (MovingTime secs) h = to_children (moving_time_items secs h)
emissions (Coalesce secs) h = to_children (coalesce_items secs h)
emissions (Smap fold) h = at_entry (fold_of fold) h
