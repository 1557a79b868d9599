-- What all events that come to a plan have, and its streams leave to them, all events in its outputs have.
use Rattle.std.proofs.Common.{ℕ, zero, suc, ◌-◌, ◌%◌, ◌==◌, int_lt, ℤ, Bool, true, false, cond, List, [], ◌∷◌, ◌++◌}
use Rattle.std.proofs.Common.{map, drop, length, None}
use Rattle.std.specs.Ordering.{is_lt, int_eq}
use Rattle.std.specs.List.{AllByRecursion, filter, flat_map, list_any}
use Rattle.ev_types.specs.declared.event.Event.{Event}
use Rattle.ev_types.specs.declared.item.Item.{Item}
use Rattle.ev_types.specs.declared.item.Item.TheVariants.{One, Many}
use Rattle.ev_types.specs.declared.item.Output.{Output}
use Rattle.ev_types.specs.declared.item.Output.TheVariants.{Notice as notice, Write as write}
use Rattle.ev_types.specs.declared.settings.Fold.{Fold}
use Rattle.ev_types.specs.declared.settings.Fold.TheVariants.{Sum, Minimum, Maximum, Count}
use Rattle.ev_types.specs.Set.{with_tag}
use Rattle.index_log.specs.IndexKey.{index_key_cmp}
use Rattle.index_log.specs.Live.{placed, placed_onto}
use Rattle.stream_plan.specs.Tree.{KindTree, Index, Notice, Sdo, Where, With, Default, Tag, By, Changed, Runs, Throttle}
use Rattle.stream_plan.specs.Tree.{Rollup, Batch, Stable, FixedEvent, MovingEvent, FixedTime, MovingTime, Coalesce}
use Rattle.stream_plan.specs.Tree.{Smap, StreamTree, StreamTrees, stream, none, also}
use Rattle.stream_meaning.specs.History.{History, since, ◌▸◌, Entry, Tick, In, begun, moment_of, window_of}
use Rattle.stream_meaning.specs.Came.{Timed, events, events_in, timed_events, each, vector, last_of}
use Rattle.stream_meaning.specs.Images.{with_sets, with_defaults, with_tags, with_metric, measured, least_of}
use Rattle.stream_meaning.specs.Images.{greatest_of, sum_event, least_event, greatest_event, count_event, folded}
use Rattle.stream_meaning.specs.Runs.{run, differs_from, last_value}
use Rattle.stream_meaning.specs.Rates.{events_now, rolls_into, allowed}
use Rattle.stream_meaning.specs.Windows.{stretch_before, greatest, stretch_of, is_recent, latest_time}
use Rattle.stream_meaning.specs.Coalesce.{newest, replaces, still_passes, event_of, coalesced}
use Rattle.stream_meaning.specs.Emission.{Branch, Children, Otherwise, Fork, Emission, emissions, to_children, one_of}
use Rattle.stream_meaning.specs.Branches.{same_branch, after_emissions, ticked, child_history, branches}
use Rattle.stream_meaning.specs.Outputs.{Effect, Emits, Due, Given, Put, at_item, emits_if_any, own_effects, due_if_any}
use Rattle.stream_meaning.specs.Outputs.{marked, BranchEffects, at_tick, received_more, at_emissions, branch_effects}
use Rattle.stream_meaning.specs.Outputs.{stream_effects, plan_effects, outputs_among, outputs_at}

-- ---- lists

pub all-append : {A : Type 0} (P : A → Type 0) (xs ys : List A) → AllByRecursion P xs → AllByRecursion P ys
    → AllByRecursion P (xs ++ ys)
all-append P [] ys h k = k
all-append P (x ∷ xs) ys h k = (h.0, all-append P xs ys h.1 k)

pub all-weaker : {A : Type 0} (P Q : A → Type 0) → ((x : A) → P x → Q x) → (xs : List A) → AllByRecursion P xs
    → AllByRecursion Q xs
all-weaker P Q f [] k = tt
all-weaker P Q f (x ∷ xs) k = (f x k.0, all-weaker P Q f xs k.1)

all-cond : {A : Type 0} (P : A → Type 0) (t : Bool) (xs ys : List A) → AllByRecursion P xs → AllByRecursion P ys
    → AllByRecursion P (cond t xs ys)
all-cond P true xs ys h k = h
all-cond P false xs ys h k = k

pub all-filter : {A : Type 0} (P : A → Type 0) (p : A → Bool) (xs : List A) → AllByRecursion P xs
    → AllByRecursion P (filter p xs)
all-filter P p [] h = tt
all-filter P p (x ∷ xs) h =
    let rest = all-filter P p xs h.1 in all-cond P (p x) (x ∷ filter p xs) (filter p xs) (h.0, rest) rest

all-drop : {A : Type 0} (P : A → Type 0) (n : ℕ) (xs : List A) → AllByRecursion P xs → AllByRecursion P (drop n xs)
all-drop P zero xs h = h
all-drop P (suc n) [] h = tt
all-drop P (suc n) (x ∷ xs) h = all-drop P n xs h.1

all-flat : {A B : Type 0} (P : B → Type 0) (f : A → List B) → ((x : A) → AllByRecursion P (f x)) → (xs : List A)
    → AllByRecursion P (flat_map f xs)
all-flat P f h [] = tt
all-flat P f h (x ∷ xs) = all-append P (f x) (flat_map f xs) (h x) (all-flat P f h xs)

either : {A : Type 0} (P : A → Type 0) (t : Bool) (x y : A) → P x → P y → P (cond t x y)
either P true x y h k = h
either P false x y h k = k

-- ---- items, histories and effects

abbrev pub ItemAll : (Event → Type 0) → Item → Type 0
ItemAll P (One event) = P event
ItemAll P (Many []) = ⊥
ItemAll P (Many (event ∷ es)) = P event × AllByRecursion P es

abbrev pub HistoryAll : (Event → Type 0) → History → Type 0
HistoryAll P (since start) = Unit {0}
HistoryAll P (h ▸ Tick) = HistoryAll P h
HistoryAll P (h ▸ In item) = HistoryAll P h × ItemAll P item

abbrev EmissionsAll : (Event → Type 0) → List Emission → Type 0
EmissionsAll P = AllByRecursion (λ emission. ItemAll P emission.item)

abbrev pub OutputAll : (Event → Type 0) → Output → Type 0
OutputAll P (notice given) = ItemAll P given.item
OutputAll P (write event) = P event

abbrev EffectAll : (Event → Type 0) → Effect → Type 0
EffectAll P Emits = Unit {0}
EffectAll P Due = Unit {0}
EffectAll P Given = Unit {0}
EffectAll P (Put output) = OutputAll P output

abbrev EffectsAll : (Event → Type 0) → List Effect → Type 0
EffectsAll P = AllByRecursion (EffectAll P)

-- a stream of the kind leaves it to each event that it changes by its sets
abbrev pub Leaves : (Event → Type 0) → KindTree → Type 0
Leaves P (With sets) = (event : Event) → P event → P (with_sets sets event)
Leaves P (Default sets) = (event : Event) → P event → P (with_defaults sets event)
Leaves P _ = Unit {0}

abbrev mutual
  pub StreamLeaves : (Event → Type 0) → StreamTree → Type 0
  StreamLeaves P (stream kind children otherwise) = Leaves P kind × PlanLeaves P children × PlanLeaves P otherwise

  pub PlanLeaves : (Event → Type 0) → StreamTrees → Type 0
  PlanLeaves P none = Unit {0}
  PlanLeaves P (also first more) = StreamLeaves P first × PlanLeaves P more

-- a metric and tags leave it
pub record IsKept (P : Event → Type 0) : Type 0 where
  pub metric : (number : ℤ) (event : Event) → P event → P (with_metric number event)
  pub tag : (event : Event) (tag : List ℕ) → P event → P (with_tag event tag)

module _ (P : Event → Type 0) (kept : IsKept P) where
  -- ---- the events that came

  all-events : (h : History) → HistoryAll P h → AllByRecursion P (events h)
  all-events (since start) k = tt
  all-events (h ▸ Tick) k = all-events h k
  all-events (h ▸ In (One event)) k = all-append P (events h) (event ∷ []) (all-events h k.0) (k.1, tt)
  all-events (h ▸ In (Many es)) k = all-events h k.0

  all-events_in : (secs window : ℕ) (h : History) → HistoryAll P h → AllByRecursion P (events_in secs window h)
  all-events_in secs window (since start) k = tt
  all-events_in secs window (h ▸ Tick) k = all-events_in secs window h k
  all-events_in secs window (h ▸ In (One event)) k =
      let before = all-events_in secs window h k.0 in
      all-cond P (window_of secs h == window) (events_in secs window h ++ event ∷ []) (events_in secs window h)
      (all-append P (events_in secs window h) (event ∷ []) before (k.1, tt)) before
  all-events_in secs window (h ▸ In (Many es)) k = all-events_in secs window h k.0

  all-timed : (h : History) → HistoryAll P h → AllByRecursion (λ timed. P timed.event) (timed_events h)
  all-timed (since start) k = tt
  all-timed (h ▸ Tick) k = all-timed h k
  all-timed (h ▸ In (One event)) k =
      all-append (λ (timed : Timed). P timed.event) (timed_events h) (record { event = event; at = moment_of h } ∷ [])
      (all-timed h k.0) (k.1, tt)
  all-timed (h ▸ In (Many es)) k = all-timed h k.0

  all-run : (field : _) (h : History) → HistoryAll P h → AllByRecursion P (run field h)
  all-run field (since start) k = tt
  all-run field (h ▸ Tick) k = all-run field h k
  all-run field (h ▸ In (One event)) k =
      all-cond P (differs_from field (last_value field None h) event) (event ∷ []) (run field h ++ event ∷ []) (k.1, tt)
      (all-append P (run field h) (event ∷ []) (all-run field h k.0) (k.1, tt))
  all-run field (h ▸ In (Many es)) k = all-run field h k.0

  -- ---- what is made of them

  all-each : (es : List Event) → AllByRecursion P es → EmissionsAll P (to_children (each es))
  all-each [] k = tt
  all-each (event ∷ es) k = (k.0, all-each es k.1)

  all-vector : (es : List Event) → AllByRecursion P es → EmissionsAll P (to_children (vector es))
  all-vector [] k = tt
  all-vector (event ∷ es) k = (k, tt)

  all-last : (n : ℕ) (es : List Event) → AllByRecursion P es → AllByRecursion P (last_of n es)
  all-last n es k = all-drop P (length es - n) es k

  children-if : (t : Bool) (items other : List Item) → EmissionsAll P (to_children items)
      → EmissionsAll P (to_children other) → EmissionsAll P (to_children (cond t items other))
  children-if true items other k l = k
  children-if false items other k l = l

  each-if : (t : Bool) (es : List Event) → AllByRecursion P es → EmissionsAll P (to_children (cond t (each es) []))
  each-if t es k = children-if t (each es) [] (all-each es k) tt

  vector-if : (t : Bool) (es : List Event) → AllByRecursion P es → EmissionsAll P (to_children (cond t (vector es) []))
  vector-if t es k = children-if t (vector es) [] (all-vector es k) tt

  vector-unless : (t : Bool) (es : List Event) → AllByRecursion P es
      → EmissionsAll P (to_children (cond t [] (vector es)))
  vector-unless t es k = children-if t [] (vector es) tt (all-vector es k)

  all-stretch : (secs : ℕ) (es : List Event) (event : Event) → AllByRecursion P es
      → AllByRecursion P (stretch_before secs es event)
  all-stretch secs [] event k = tt
  all-stretch secs (first ∷ more) event k =
      let latest = greatest (stretch_of secs first first) (map (stretch_of secs first) more) in
      let is_latest = λ (other : Event). int_eq (stretch_of secs first other) latest in
      all-cond P (int_lt latest (stretch_of secs first event)) (filter is_latest (first ∷ more)) []
      (all-filter P is_latest (first ∷ more) k) tt

  all-newest : (came : List Timed) → AllByRecursion (λ timed. P timed.event) came
      → AllByRecursion (λ timed. P timed.event) (newest came)
  all-newest [] k = tt
  all-newest (older ∷ later) k =
      let rest = all-newest later k.1 in
      all-cond (λ (timed : Timed). P timed.event) (list_any (replaces older) later) (newest later)
      (older ∷ newest later) rest (k.0, rest)

  all-mapped : (came : List Timed) → AllByRecursion (λ timed. P timed.event) came → AllByRecursion P (map event_of came)
  all-mapped [] k = tt
  all-mapped (timed ∷ came) k = (k.0, all-mapped came k.1)

  all-placed : (event : Event) (es : List Event) → P event → AllByRecursion P es → AllByRecursion P (placed event es)
  all-placed event [] h k = (h, tt)
  all-placed event (first ∷ es) h k =
      all-cond P (is_lt (index_key_cmp event first)) (event ∷ first ∷ es) (first ∷ placed event es) (h, k)
      (k.0, all-placed event es h k.1)

  all-onto : (sorted es : List Event) → AllByRecursion P sorted → AllByRecursion P es
      → AllByRecursion P (placed_onto sorted es)
  all-onto sorted [] k l = k
  all-onto sorted (event ∷ es) k l = all-onto (placed event sorted) es (all-placed event sorted l.0 k) l.1

  all-coalesced : (secs t : ℕ) (came : List Timed) → AllByRecursion (λ timed. P timed.event) came
      → AllByRecursion P (coalesced secs t came)
  all-coalesced secs t came k =
      all-onto [] (map event_of (filter (still_passes secs t) (newest came))) tt
      (all-mapped (filter (still_passes secs t) (newest came))
      (all-filter (λ (timed : Timed). P timed.event) (still_passes secs t) (newest came) (all-newest came k)))

  all-tags : (tags : List (List ℕ)) (event : Event) → P event → P (with_tags tags event)
  all-tags [] event k = k
  all-tags (tag ∷ tags) event k = all-tags tags (with_tag event tag) (kept.tag event tag k)

  all-least : (least : Event) (es : List Event) → P least → AllByRecursion P es → P (least_of least es)
  all-least least [] h k = h
  all-least least (event ∷ es) h k = all-least (cond _ event least) es (either P _ event least k.0 h) k.1

  all-greatest : (most : Event) (es : List Event) → P most → AllByRecursion P es → P (greatest_of most es)
  all-greatest most [] h k = h
  all-greatest most (event ∷ es) h k = all-greatest (cond _ event most) es (either P _ event most k.0 h) k.1

  all-measured : (es : List Event) → AllByRecursion P es → AllByRecursion P (measured es)
  all-measured es k = all-filter P _ es k

  fold-sum : (es : List Event) → AllByRecursion P es → EmissionsAll P (one_of (sum_event es))
  fold-sum [] k = tt
  fold-sum (event ∷ es) k = (kept.metric _ event k.0, tt)

  fold-least : (es : List Event) → AllByRecursion P es → EmissionsAll P (one_of (least_event es))
  fold-least [] k = tt
  fold-least (event ∷ es) k = (all-least event es k.0 k.1, tt)

  fold-greatest : (es : List Event) → AllByRecursion P es → EmissionsAll P (one_of (greatest_event es))
  fold-greatest [] k = tt
  fold-greatest (event ∷ es) k = (all-greatest event es k.0 k.1, tt)

  fold-count : (es : List Event) → AllByRecursion P es → EmissionsAll P (one_of (count_event es))
  fold-count [] k = tt
  fold-count (event ∷ es) k = (kept.metric _ event k.0, tt)

  fold-all : (fold : Fold) (es : List Event) → AllByRecursion P es → EmissionsAll P (one_of (folded fold es))
  fold-all Sum es k = fold-sum (measured es) (all-measured es k)
  fold-all Minimum es k = fold-least (measured es) (all-measured es k)
  fold-all Maximum es k = fold-greatest (measured es) (all-measured es k)
  fold-all Count es k = fold-count es k

  events_of_vector : (es : List Event) → ItemAll P (Many es) → AllByRecursion P es
  events_of_vector [] k = tt
  events_of_vector (event ∷ es) k = k

  begin_all : (kind : KindTree) (start : ℕ) → EmissionsAll P (emissions kind (since start))
  begin_all Index start = tt
  begin_all kind start = tt

  pub all-emissions : (kind : KindTree) (h : History) → Leaves P kind → HistoryAll P h
      → EmissionsAll P (emissions kind h)
  all-emissions Sdo (h ▸ In item) leaves k = (k.1, tt)
  all-emissions (Where rule) (h ▸ In (One event)) leaves k = (k.1, tt)
  all-emissions (With sets) (h ▸ In (One event)) leaves k = (leaves event k.1, tt)
  all-emissions (Default sets) (h ▸ In (One event)) leaves k = (leaves event k.1, tt)
  all-emissions (Tag tags) (h ▸ In (One event)) leaves k = (all-tags tags event k.1, tt)
  all-emissions (By fields idle) (h ▸ In (One event)) leaves k = (k.1, tt)
  all-emissions (Changed field init) (h ▸ In (One event)) leaves k = each-if _ (event ∷ []) (k.1, tt)
  all-emissions (Runs n field) (h ▸ In (One event)) leaves k = each-if _ (event ∷ []) (k.1, tt)
  all-emissions (Throttle n secs) (h ▸ In (One event)) leaves k = each-if _ (event ∷ []) (k.1, tt)
  all-emissions (Rollup n secs) (h ▸ In (One event)) leaves k = vector-if _ (event ∷ []) (k.1, tt)
  all-emissions (Rollup n secs) (h ▸ Tick) leaves k =
      let window = window_of secs h in
      let left = drop (allowed n secs window h) (events_in secs window h) in
      children-if (window_of secs (h ▸ Tick) == window) [] (cond (rolls_into n secs (suc window) h) (vector left) []) tt
      (vector-if (rolls_into n secs (suc window) h) left
      (all-drop P (allowed n secs window h) (events_in secs window h) (all-events_in secs window h k)))
  all-emissions (Batch n secs) (h ▸ In (One event)) leaves k =
      let now = events_now secs h ++ event ∷ [] in
      vector-if (length now % n == 0) (last_of n now)
      (all-last n now
      (all-append P (events_now secs h) (event ∷ []) (all-events_in secs (window_of secs h) h k.0) (k.1, tt)))
  all-emissions (Batch n secs) (h ▸ Tick) leaves k =
      vector-unless (window_of secs (h ▸ Tick) == window_of secs h)
      (last_of (length (events_now secs h) % n) (events_now secs h))
      (all-last (length (events_now secs h) % n) (events_now secs h) (all-events_in secs (window_of secs h) h k))
  all-emissions (Stable secs field) (h ▸ In (One event)) leaves k = each-if _ (event ∷ []) (k.1, tt)
  all-emissions (Stable secs field) (h ▸ Tick) leaves k = each-if _ (run field h) (all-run field h k)
  all-emissions (FixedEvent n) (h ▸ In (One event)) leaves k =
      let came = events h ++ event ∷ [] in
      vector-if (length came % n == 0) (last_of n came)
      (all-last n came (all-append P (events h) (event ∷ []) (all-events h k.0) (k.1, tt)))
  all-emissions (MovingEvent n) (h ▸ In (One event)) leaves k =
      all-vector (last_of n (events h ++ event ∷ []))
      (all-last n (events h ++ event ∷ []) (all-append P (events h) (event ∷ []) (all-events h k.0) (k.1, tt)))
  all-emissions (FixedTime secs) (h ▸ In (One event)) leaves k =
      all-vector (stretch_before secs (events h) event) (all-stretch secs (events h) event (all-events h k.0))
  all-emissions (MovingTime secs) (h ▸ In (One event)) leaves k =
      let latest = latest_time (events h) event in
      vector-if (is_recent secs latest event) (filter (is_recent secs latest) (events h ++ event ∷ []))
      (all-filter P (is_recent secs latest) (events h ++ event ∷ [])
      (all-append P (events h) (event ∷ []) (all-events h k.0) (k.1, tt)))
  all-emissions (Coalesce secs) (h ▸ Tick) leaves k =
      let t = moment_of (h ▸ Tick) in
      vector-if ((t - begun h) % secs == 0) (coalesced secs t (timed_events h))
      (all-coalesced secs t (timed_events h) (all-timed h k))
  all-emissions (Smap fold) (h ▸ In (Many es)) leaves k = fold-all fold es (events_of_vector es k.1)
  all-emissions kind (since start) leaves k = begin_all kind start
  all-emissions kind (h ▸ Tick) leaves k = tt
  all-emissions kind (h ▸ In (One event)) leaves k = tt
  all-emissions kind (h ▸ In (Many es)) leaves k = tt

  -- ---- what goes on to the branches

  all-after : (branch : Branch) (es : List Emission) (h : History) → EmissionsAll P es → HistoryAll P h
      → HistoryAll P (after_emissions branch es h)
  all-after branch [] h k l = l
  all-after branch (emission ∷ more) h k l =
      all-after branch more (cond (same_branch emission.branch branch) (h ▸ In emission.item) h) k.1
      (either (HistoryAll P) (same_branch emission.branch branch) (h ▸ In emission.item) h (l, k.0) l)

  all-ticked : (x : Entry) (h : History) → HistoryAll P h → HistoryAll P (ticked x h)
  all-ticked Tick h k = k
  all-ticked (In item) h k = k

  all-but_last : (h : History) (x : Entry) → HistoryAll P (h ▸ x) → HistoryAll P h
  all-but_last h Tick k = k
  all-but_last h (In item) k = k.0

  all-received : (kind : KindTree) (branch : Branch) (h : History) → Leaves P kind → HistoryAll P h
      → HistoryAll P (child_history kind branch h)
  all-received kind branch (since start) leaves k = tt
  all-received kind branch (h ▸ x) leaves k =
      all-after branch (emissions kind (h ▸ x)) (ticked x (child_history kind branch h))
      (all-emissions kind (h ▸ x) leaves k)
      (all-ticked x (child_history kind branch h) (all-received kind branch h leaves (all-but_last h x k)))

  -- ---- effects

  all-emits : (es : List Emission) → EffectsAll P (emits_if_any es)
  all-emits [] = tt
  all-emits (emission ∷ more) = (tt, tt)

  all-at_item : (kind : KindTree) (h : History) (item : Item) → ItemAll P item
      → EffectsAll P (at_item kind (h ▸ In item))
  all-at_item Index h (One event) k = (k, tt)
  all-at_item (Notice name) h item k = (k, tt)
  all-at_item (By fields idle) h (One event) k = (tt, tt)
  all-at_item kind h (One event) k = tt
  all-at_item kind h (Many es) k = tt

  all-own : (kind : KindTree) (h : History) (x : Entry) → HistoryAll P (h ▸ x) → EffectsAll P (own_effects kind (h ▸ x))
  all-own kind h Tick k = all-emits (emissions kind (h ▸ Tick))
  all-own kind h (In item) k = all-at_item kind h item k.1

  all-due : (effects : List Effect) → EffectsAll P effects → EffectsAll P (due_if_any effects)
  all-due [] k = tt
  all-due (first ∷ more) k = (tt, k)

  all-marked : (branch : Branch) (effects : List Effect) → EffectsAll P effects → EffectsAll P (marked branch effects)
  all-marked Children effects k = k
  all-marked Otherwise effects k = k
  all-marked (Fork fork) effects k = all-due effects k

  -- below a branch, whatever it has received
  abbrev BelowAll : (History → List Effect) → Type 0
  BelowAll below = (h : History) → HistoryAll P h → EffectsAll P (below h)

  all-below : (children otherwise : History → List Effect) → BelowAll children → BelowAll otherwise → (branch : Branch)
      → BelowAll (branch_effects children otherwise branch)
  all-below children otherwise p q Children = p
  all-below children otherwise p q Otherwise = q
  all-below children otherwise p q (Fork fork) = p

  all-at_tick : (x : Entry) (effects_in : BranchEffects) (received : Branch → History) (below : List Branch) →
      ((branch : Branch) → BelowAll (effects_in branch)) → ((branch : Branch) → HistoryAll P (received branch)) →
      EffectsAll P (at_tick x effects_in received below)
  all-at_tick (In item) effects_in received below p q = tt
  all-at_tick Tick effects_in received below p q =
      all-flat (EffectAll P) (λ branch. marked branch (effects_in branch (received branch ▸ Tick)))
      (λ branch.
      all-marked branch (effects_in branch (received branch ▸ Tick)) (p branch (received branch ▸ Tick) (q branch)))
      below

  all-at_emissions : (effects_in : BranchEffects) (received : Branch → History) (es : List Emission) →
      ((branch : Branch) → BelowAll (effects_in branch)) → ((branch : Branch) → HistoryAll P (received branch)) →
      EmissionsAll P es → EffectsAll P (at_emissions effects_in received es)
  all-at_emissions effects_in received [] p q k = tt
  all-at_emissions effects_in received (emission ∷ more) p q k =
      all-append (EffectAll P) (effects_in emission.branch (received emission.branch ▸ In emission.item))
      (at_emissions effects_in (received_more emission received) more)
      (p emission.branch (received emission.branch ▸ In emission.item) (q emission.branch, k.0))
      (all-at_emissions effects_in (received_more emission received) more p
      (λ branch. either (HistoryAll P) (same_branch emission.branch branch) (received branch ▸ In emission.item)
      (received branch) (q branch, k.0) (q branch))
      k.1)

  mutual
    pub all-stream : (s : StreamTree) → StreamLeaves P s → (h : History) → HistoryAll P h
        → EffectsAll P (stream_effects s h)
    all-stream (stream kind children otherwise) leaves (since start) k = tt
    all-stream (stream kind children otherwise) leaves (h ▸ x) k =
        let effects_in = branch_effects (plan_effects children) (plan_effects otherwise) in
        let received = λ (branch : Branch). child_history kind branch h in
        let after = λ (branch : Branch). ticked x (child_history kind branch h) in
        let below =
        all-below (plan_effects children) (plan_effects otherwise) (all-plan children leaves.1)
        (all-plan otherwise leaves.2) in
        let came = λ (branch : Branch). all-received kind branch h leaves.0 (all-but_last h x k) in
        all-append (EffectAll P) (own_effects kind (h ▸ x) ++ at_tick x effects_in received (branches kind h))
        (at_emissions effects_in after (emissions kind (h ▸ x)))
        (all-append (EffectAll P) (own_effects kind (h ▸ x)) (at_tick x effects_in received (branches kind h))
        (all-own kind h x k) (all-at_tick x effects_in received (branches kind h) below came))
        (all-at_emissions effects_in after (emissions kind (h ▸ x)) below
        (λ branch. all-ticked x (child_history kind branch h) (came branch)) (all-emissions kind (h ▸ x) leaves.0 k))

    pub all-plan : (plan : StreamTrees) → PlanLeaves P plan → (h : History) → HistoryAll P h
        → EffectsAll P (plan_effects plan h)
    all-plan none leaves h k = tt
    all-plan (also first more) leaves h k =
        all-append (EffectAll P) (stream_effects first h) (plan_effects more h) (all-stream first leaves.0 h k)
        (all-plan more leaves.1 h k)

  all-outputs : (effects : List Effect) → EffectsAll P effects → AllByRecursion (OutputAll P) (outputs_among effects)
  all-outputs [] k = tt
  all-outputs (Emits ∷ more) k = all-outputs more k.1
  all-outputs (Due ∷ more) k = all-outputs more k.1
  all-outputs (Given ∷ more) k = all-outputs more k.1
  all-outputs (Put output ∷ more) k = (k.0, all-outputs more k.1)

  pub outputs_kept : (plan : StreamTrees) → PlanLeaves P plan → (h : History) → HistoryAll P h
      → AllByRecursion (OutputAll P) (outputs_at plan h)
  outputs_kept plan leaves h k = all-outputs (plan_effects plan h) (all-plan plan leaves h k)
