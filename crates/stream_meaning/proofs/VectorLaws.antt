-- No stream passes on an empty vector, but for what passes on what came.
use Rattle.std.proofs.Common.{ℕ, suc, ◌==◌, drop, Bool, true, false, cond, List, [], ◌∷◌, Option, Some, None}
use Rattle.ev_types.specs.declared.event.Event.{Event}
use Rattle.ev_types.specs.declared.item.Item.{Item}
use Rattle.ev_types.specs.declared.item.Item.TheVariants.{One, Many}
use Rattle.stream_plan.specs.Tree.{KindTree, Index, Sdo, Where, With, Default, Tag, By, Changed, Runs, Throttle, Rollup}
use Rattle.stream_plan.specs.Tree.{Batch, Stable, FixedEvent, MovingEvent, FixedTime, MovingTime, Coalesce, Smap}
use Rattle.stream_meaning.specs.History.{since, ◌▸◌, Tick, In, window_of}
use Rattle.stream_meaning.specs.Came.{each, vector, events_in}
use Rattle.stream_meaning.specs.Rates.{rolls_into, allowed}
use Rattle.stream_meaning.specs.Emission.{emissions, to_children, one_of}
use Rattle.stream_meaning.specs.Laws.{AreNotEmpty, VectorsAreNotEmpty}

not_empty-each : (es : List Event) → AreNotEmpty (to_children (each es))
not_empty-each [] = tt
not_empty-each (event ∷ es) = (tt, not_empty-each es)

not_empty-vector : (es : List Event) → AreNotEmpty (to_children (vector es))
not_empty-vector [] = tt
not_empty-vector (event ∷ es) = (tt, tt)

not_empty-one : (folded : Option Event) → AreNotEmpty (one_of folded)
not_empty-one None = tt
not_empty-one (Some event) = (tt, tt)

not_empty-if : (t : Bool) (items other : List Item) → AreNotEmpty (to_children items) → AreNotEmpty (to_children other)
    → AreNotEmpty (to_children (cond t items other))
not_empty-if true items other h k = h
not_empty-if false items other h k = k

-- one event where the test is true, a vector where it is, or one where it is not and the other test is
one_if_true : (t : Bool) (event : Event) → AreNotEmpty (to_children (cond t (each (event ∷ [])) []))
one_if_true t event = not_empty-if t (each (event ∷ [])) [] (tt, tt) tt

each_if_true : (t : Bool) (es : List Event) → AreNotEmpty (to_children (cond t (each es) []))
each_if_true t es = not_empty-if t (each es) [] (not_empty-each es) tt

vector_if_true : (t : Bool) (es : List Event) → AreNotEmpty (to_children (cond t (vector es) []))
vector_if_true t es = not_empty-if t (vector es) [] (not_empty-vector es) tt

vector_if_false : (t : Bool) (es : List Event) → AreNotEmpty (to_children (cond t [] (vector es)))
vector_if_false t es = not_empty-if t [] (vector es) tt (not_empty-vector es)

vector_if_both : (t u : Bool) (es : List Event) → AreNotEmpty (to_children (cond t [] (cond u (vector es) [])))
vector_if_both t u es = not_empty-if t [] (cond u (vector es) []) tt (vector_if_true u es)

begin_not_empty : (kind : KindTree) (start : ℕ) → AreNotEmpty (emissions kind (since start))
begin_not_empty Index start = tt
begin_not_empty kind start = tt

pub vectors_not_empty : VectorsAreNotEmpty
vectors_not_empty Sdo (h ▸ In item) well = (well, tt)
vectors_not_empty (Where rule) (h ▸ In (One event)) well = (tt, tt)
vectors_not_empty (With sets) (h ▸ In (One event)) well = (tt, tt)
vectors_not_empty (Default sets) (h ▸ In (One event)) well = (tt, tt)
vectors_not_empty (Tag tags) (h ▸ In (One event)) well = (tt, tt)
vectors_not_empty (By fields idle) (h ▸ In (One event)) well = (tt, tt)
vectors_not_empty (Changed field init) (h ▸ In (One event)) well = one_if_true _ event
vectors_not_empty (Runs n field) (h ▸ In (One event)) well = one_if_true _ event
vectors_not_empty (Throttle n secs) (h ▸ In (One event)) well = one_if_true _ event
vectors_not_empty (Rollup n secs) (h ▸ In (One event)) well = vector_if_true _ (event ∷ [])
vectors_not_empty (Rollup n secs) (h ▸ Tick) well =
    let window = window_of secs h in
    vector_if_both (window_of secs (h ▸ Tick) == window) (rolls_into n secs (suc window) h)
    (drop (allowed n secs window h) (events_in secs window h))
vectors_not_empty (Batch n secs) (h ▸ In (One event)) well = vector_if_true _ _
vectors_not_empty (Batch n secs) (h ▸ Tick) well = vector_if_false _ _
vectors_not_empty (Stable secs field) (h ▸ In (One event)) well = one_if_true _ event
vectors_not_empty (Stable secs field) (h ▸ Tick) well = each_if_true _ _
vectors_not_empty (FixedEvent n) (h ▸ In (One event)) well = vector_if_true _ _
vectors_not_empty (MovingEvent n) (h ▸ In (One event)) well = not_empty-vector _
vectors_not_empty (FixedTime secs) (h ▸ In (One event)) well = not_empty-vector _
vectors_not_empty (MovingTime secs) (h ▸ In (One event)) well = vector_if_true _ _
vectors_not_empty (Coalesce secs) (h ▸ Tick) well = vector_if_true _ _
vectors_not_empty (Smap fold) (h ▸ In (Many es)) well = not_empty-one _
vectors_not_empty kind (since start) well = begin_not_empty kind start
vectors_not_empty kind (h ▸ Tick) well = tt
vectors_not_empty kind (h ▸ In (One event)) well = tt
vectors_not_empty kind (h ▸ In (Many es)) well = tt
