-- Items, and seconds after `tick`, are read exactly as the grammar says, and refused exactly for their first fault.
use Rattle.std.proofs.Common.{◌≡◌, ℕ, ℤ, pos, ◌+◌, ◌<◌, ◌≤◌, nat_abs, nat_le, int_le, Bool, true, false, ◌&&◌, cond}
use Rattle.std.proofs.Common.{List, [], ◌∷◌, Result, Ok, Err, refl, ap, sym, subst, ◌∙◌, arith}
use Rattle.std.proofs.lemmas.Bool.{leb-true, leb-false, le-leb, false_from_ne_true}
use Rattle.ev_types.specs.declared.event.Event.{Event}
use Rattle.ev_types.specs.declared.field.Field.TheVariants.{Time}
use Rattle.ev_types.specs.declared.item.Item.{Item}
use Rattle.ev_types.specs.declared.item.Item.TheVariants.{One, Many}
use Rattle.sexp_read.specs.declared.piece.Atom.TheVariants as atom
use Rattle.sexp_read.specs.declared.piece.Bracket.TheVariants.{Round, Square, Curly}
use Rattle.sexp_read.specs.Tree.{FormTree, FormTrees, Single, Group, none}
use Rattle.sexp_read.specs.Written.{BareTree, BareTrees, Branch, no_trees, bare_tree, bare_trees}
use Rattle.config_terms.specs.declared.fault.ConfigWhy.TheVariants as why
use Rattle.config_terms.specs.Steps.{Fault, ◌>>=◌, start_of, each, onto}
use Rattle.config_terms.specs.Arguments.{argument_of, has_field, number_at, ranged, ranged_at, some_of}
use Rattle.config_terms.specs.Terms.{vector_of}
use Rattle.config_terms.proofs.BareForms.{group_of, none_of}
use Rattle.config_terms.proofs.TermLaws.{numbers_are_read}
use Rattle.config_terms.proofs.VectorLaws.{ranges_are_read}
use Rattle.config_tests.specs.declared.draft.TheConstants.{MAX_SECONDS, MAX_TICK}
use Rattle.config_tests.specs.declared.map.Described.{Described}
use Rattle.config_tests.specs.Entries.{within, count_at, timed, timed_at, some_timed, item_at}
use Rattle.config_tests.specs.Events.{event_of}
use Rattle.config_tests.specs.Faults.{IsMisfit, IsNumber, HasCountFault, no_number, no_count, too_many, IsVector}
use Rattle.config_tests.specs.Faults.{HasMapFault, HasTimedFault, no_event, no_time, HaveTimedFault, HasItemFault}
use Rattle.config_tests.specs.Faults.{no_item, in_vector, no_events, HaveItemFault}
use Rattle.config_terms.specs.Terms.{AreEach, no_more, one_more}
use Rattle.config_tests.specs.Grammar.{IsCount, IsMap, IsTimed, a_timed, IsItem, event_item}
use Rattle.config_tests.specs.Grammar.{vector_item}
use Rattle.config_tests.specs.Maps.{described_at}
use Rattle.config_tests.proofs.MapsRead.{map_both, map_read, map_refuses, map_is_curly}
use Rattle.config_tests.proofs.Refusals.{Refuses, Both, both_then, both_if, refuses_first, refuses_next, refuses_as}
use Rattle.config_tests.proofs.Refusals.{ok_err, number_both, number_refuses}
use Rattle.config_terms.proofs.RowLaws.{all_read}
use Rattle.config_tests.proofs.Rows.{all_both, all_refuses}

-- ---- seconds

abbrev is_in_range : ℤ → Bool
is_in_range number = int_le (pos 1) number && int_le number (pos MAX_TICK)

in_range : (f : FormTree) (number : ℤ) → number_at [] f ≡ Ok number → is_in_range number ≡ true
    → ranged_at 1 MAX_TICK [] f ≡ Ok (nat_abs number)
unfolding ranged_at
in_range f number is within_ = rw (is, within_) refl

not_in_range : (f : FormTree) (number : ℤ) → number_at [] f ≡ Ok number → is_in_range number ≡ false
    → ranged_at 1 MAX_TICK [] f ≡ Err (start_of f, why.Range)
unfolding ranged_at
not_in_range f number is beyond = rw (is, beyond) refl

-- the fault of a number is the same however many seconds passed
abbrev HasNumberFault : FormTree → Fault → Type 0
HasNumberFault f fault = (passed : ℕ) → HasCountFault passed f fault

range_both : (f : FormTree) → Both (IsCount (bare_tree f)) (HasNumberFault f) (ranged_at 1 MAX_TICK [] f)
unfolding ranged_at
range_both f = by (number_at [] f) refl (number_both f)
  where
    number_by : (number : ℤ) → number_at [] f ≡ Ok number → (test : Bool) → is_in_range number ≡ test
        → Both (IsCount (bare_tree f)) (HasNumberFault f)
        (cond test (Ok (nat_abs number)) (Err (start_of f, why.Range)))
    number_by number is true within_ =
        (ranges_are_read 1 MAX_TICK [] f (nat_abs number)).1 (in_range f number is within_)
    number_by number is false beyond = λ passed. no_count ((numbers_are_read [] f number).1 is)
        (λ count has. ok_err (ranged_at 1 MAX_TICK [] f) count (start_of f, why.Range)
        ((ranges_are_read 1 MAX_TICK [] f count).0 has) (not_in_range f number is beyond))

    by : (read : Result ℤ Fault) → number_at [] f ≡ read → Both (IsNumber (bare_tree f)) (IsMisfit IsNumber f) read
        → Both (IsCount (bare_tree f)) (HasNumberFault f) (read >>= ranged 1 MAX_TICK (start_of f))
    by (Ok number) is known = number_by number is (is_in_range number) refl
    by (Err fault) is known = λ passed. no_number known

abbrev pub Counted : ℕ → BareTree → ℕ → Type 0
Counted passed form count = IsCount form count × (passed + count ≤ MAX_SECONDS)

pub count_both : (passed : ℕ) (f : FormTree)
    → Both (Counted passed (bare_tree f)) (HasCountFault passed f) (count_at passed f)
unfolding count_at
count_both passed f =
    let P = Counted passed (bare_tree f) in
    let E = HasCountFault passed f in
    both_then (IsCount (bare_tree f)) (HasNumberFault f) E P (ranged_at 1 MAX_TICK [] f) (within (start_of f) passed)
    (range_both f) (λ fault has. has passed)
    (λ count is. both_if P E (nat_le (passed + count) MAX_SECONDS) _ _
    (λ few. (is, leb-true (passed + count) MAX_SECONDS few))
    (λ many. too_many is (leb-false (passed + count) MAX_SECONDS many)))

pub count_read : (passed : ℕ) (f : FormTree) (count : ℕ) → IsCount (bare_tree f) count → passed + count ≤ MAX_SECONDS
    → count_at passed f ≡ Ok count
unfolding count_at
count_read passed f count is few =
    rw ((ranges_are_read 1 MAX_TICK [] f count).0 is, le-leb (passed + count) MAX_SECONDS few) refl

no_count_refuses : (f : FormTree) (number : ℤ) → number_at [] f ≡ Ok number
    → ((count : ℕ) → IsCount (bare_tree f) count → ⊥) → Refuses (ranged_at 1 MAX_TICK [] f) (start_of f, why.Range)
no_count_refuses f number is misfit = by (is_in_range number) refl
  where
    by : (test : Bool) → is_in_range number ≡ test → Refuses (ranged_at 1 MAX_TICK [] f) (start_of f, why.Range)
    by true within_ =
        absurd
        (misfit (nat_abs number) ((ranges_are_read 1 MAX_TICK [] f (nat_abs number)).1 (in_range f number is within_)))
    by false beyond = rw (not_in_range f number is beyond) refl

many : (passed count : ℕ) → MAX_SECONDS < passed + count → nat_le (passed + count) MAX_SECONDS ≡ false
many passed count over =
    false_from_ne_true (nat_le (passed + count) MAX_SECONDS)
    (λ few. omega (arith, leb-true (passed + count) MAX_SECONDS few, over))

within_refuses : (place passed count : ℕ) → MAX_SECONDS < passed + count
    → Refuses (within place passed count) (place, why.Range)
within_refuses place passed count over = rw (many passed count over) refl

pub count_refuses : (passed : ℕ) (f : FormTree) (fault : Fault) → HasCountFault passed f fault
    → Refuses (count_at passed f) fault
unfolding count_at ranged_at
count_refuses passed f fault (no_number misfit) =
    refuses_first (ranged_at 1 MAX_TICK [] f) (within (start_of f) passed) fault
    (refuses_first (number_at [] f) (ranged 1 MAX_TICK (start_of f)) fault (number_refuses f fault misfit))
count_refuses passed _ _ (no_count {f = f} {number = number} is misfit) =
    refuses_first (ranged_at 1 MAX_TICK [] f) (within (start_of f) passed) (start_of f, why.Range)
    (no_count_refuses f number ((numbers_are_read [] f number).0 is) misfit)
count_refuses passed _ _ (too_many {f = f} {count = count} is over) =
    refuses_next (ranged_at 1 MAX_TICK [] f) count (within (start_of f) passed) (start_of f, why.Range)
    ((ranges_are_read 1 MAX_TICK [] f count).0 is) (within_refuses (start_of f) passed count over)

-- ---- events with a time

timed_both : (f : FormTree) → Both (IsTimed (bare_tree f)) (HasTimedFault f) (timed_at f)
unfolding timed_at
timed_both f =
    let P = IsTimed (bare_tree f) in
    let E = HasTimedFault f in
    both_then (IsMap (bare_tree f)) (HasMapFault f) E P (described_at f) (timed (start_of f)) (map_both f)
    (λ fault has. no_event has)
    (λ said is. both_if P E (has_field Time said.sets) _ _ (λ has. a_timed is has) (λ not. no_time is not))

timed_is : (f : FormTree) (said : Described) → IsMap (bare_tree f) said → has_field Time said.sets ≡ true
    → timed_at f ≡ Ok (event_of 0 said)
unfolding timed_at
timed_is f said is has = rw (map_read f said is, has) refl

timed_given : (form : BareTree) (event : Event) → IsTimed form event → (f : FormTree) → bare_tree f ≡ form
    → timed_at f ≡ Ok event
timed_given form _ (a_timed {described = said} is has) f h =
    timed_is f said (subst (λ (t : BareTree). IsMap t said) (sym h) is) has

timed_read : (f : FormTree) (event : Event) → IsTimed (bare_tree f) event → timed_at f ≡ Ok event
timed_read f event is = timed_given (bare_tree f) event is f refl

no_time_refuses : (place : ℕ) (said : Described) → has_field Time said.sets ≡ false
    → Refuses (timed place said) (place, why.Arguments)
no_time_refuses place said not = rw not refl

timed_refuses : (f : FormTree) (fault : Fault) → HasTimedFault f fault → Refuses (timed_at f) fault
unfolding timed_at
timed_refuses f fault (no_event has) =
    refuses_first (described_at f) (timed (start_of f)) fault (map_refuses f fault has)
timed_refuses _ _ (no_time {f = f} {described = said} is not) =
    refuses_next (described_at f) said (timed (start_of f)) (start_of f, why.Arguments) (map_read f said is)
    (no_time_refuses (start_of f) said not)

-- ---- vectors of such events

nothing_in : {A : Type 0} (Is : BareTree → A → Type 0) (row : BareTrees) (all : List A) → AreEach Is row all → all ≡ []
    → row ≡ no_trees
nothing_in Is _ _ no_more e = refl
nothing_in Is _ _ (one_more {a = a} {all = all} is others) e = cc

abbrev ManyIn : BareTree → List Event → Type 0
ManyIn form events = IsItem form (Many events)

some_both : (forms : FormTrees) (start last : ℕ)
    → Both (ManyIn (vector_of (bare_trees forms))) (HasItemFault (Group Square forms start last))
    (some_timed start forms)
some_both forms start last =
    let P = ManyIn (vector_of (bare_trees forms)) in
    let E = HasItemFault (Group Square forms start last) in
    both_then (AreEach IsTimed (bare_trees forms)) (HaveTimedFault forms) E P (each (onto timed_at) [] forms)
    (some_of start)
    (all_both IsTimed HasTimedFault timed_at timed_both forms) (λ fault has. in_vector has) by
  where
    by : (events : List Event) → AreEach IsTimed (bare_trees forms) events
        → Both (ManyIn (vector_of (bare_trees forms))) (HasItemFault (Group Square forms start last))
        (some_of start events)
    by [] are =
        subst (λ (fs : FormTrees). HasItemFault (Group Square fs start last) (start, why.Arguments))
        (sym (none_of forms (nothing_in IsTimed (bare_trees forms) [] are refl))) no_events
    by (event ∷ events) are = vector_item are

some_is : (start : ℕ) (forms : FormTrees) (event : Event) (events : List Event)
    → AreEach IsTimed (bare_trees forms) (event ∷ events) → some_timed start forms ≡ Ok (event ∷ events)
some_is start forms event events are = rw (all_read IsTimed timed_at timed_read forms (event ∷ events) are) refl

-- ---- items

item_group : (forms : FormTrees) (start last : ℕ)
    → item_at (Group Square forms start last) ≡ (some_timed start forms >>= λ events. Ok (Many events))
unfolding item_at argument_of
item_group forms start last = refl

item_one : (f : FormTree) → ((row : BareTrees) → IsVector (bare_tree f) row → ⊥)
    → item_at f ≡ (timed_at f >>= λ event. Ok (One event))
unfolding item_at argument_of
item_one (Group Square forms start last) other = absurd (other (bare_trees forms) refl)
item_one (Group Round forms start last) other = refl
item_one (Group Curly forms start last) other = refl
item_one (Single (atom.Text text) start last) other = refl
item_one (Single (atom.Pattern text) start last) other = refl
item_one (Single (atom.Number number) start last) other = refl
item_one (Single (atom.Keyword name) start last) other = refl
item_one (Single (atom.Symbol name) start last) other = refl

one_both : (f : FormTree) → ((row : BareTrees) → IsVector (bare_tree f) row → ⊥)
    → Both (IsItem (bare_tree f)) (HasItemFault f) (item_at f)
one_both f other =
    subst (λ (read : Result Item Fault). Both (IsItem (bare_tree f)) (HasItemFault f) read) (sym (item_one f other))
    (both_then (IsTimed (bare_tree f)) (HasTimedFault f) (HasItemFault f) (IsItem (bare_tree f)) (timed_at f)
    (λ event. Ok (One event)) (timed_both f) (λ fault has. no_item other has) (λ event is. event_item is))

item_both : (f : FormTree) → Both (IsItem (bare_tree f)) (HasItemFault f) (item_at f)
item_both (Group Square forms start last) =
    let f = Group Square forms start last in
    subst (λ (read : Result Item Fault). Both (IsItem (bare_tree f)) (HasItemFault f) read)
    (sym (item_group forms start last))
    (both_then (ManyIn (bare_tree f)) (HasItemFault f) (HasItemFault f) (IsItem (bare_tree f)) (some_timed start forms)
    (λ events. Ok (Many events)) (some_both forms start last) (λ fault has. has) (λ events is. is))
item_both (Group Round forms start last) = one_both (Group Round forms start last) (λ row is. cc)
item_both (Group Curly forms start last) = one_both (Group Curly forms start last) (λ row is. cc)
item_both (Single one start last) = one_both (Single one start last) (λ row is. cc)

no_vector_of_map : (form : BareTree) (row other : BareTrees) → form ≡ Branch Curly row → IsVector form other → ⊥
no_vector_of_map form row other is vector = cc

timed_is_map : (form : BareTree) (event : Event) → IsTimed form event → (other : BareTrees) → IsVector form other → ⊥
timed_is_map form _ (a_timed {described = said} is has) other vector =
    let map = map_is_curly form said is in no_vector_of_map form map.row other map.is vector

one_is : (f : FormTree) (event : Event) → IsTimed (bare_tree f) event → item_at f ≡ Ok (One event)
one_is f event is =
    item_one f (timed_is_map (bare_tree f) event is)
    ∙ ap (λ (read : Result Event Fault). read >>= λ one. Ok (One one)) (timed_read f event is)

item_given : (form : BareTree) (item : Item) → IsItem form item → (f : FormTree) → bare_tree f ≡ form
    → item_at f ≡ Ok item
item_given form _ (event_item {event = event} is) f h =
    one_is f event (subst (λ (t : BareTree). IsTimed t event) (sym h) is)
item_given _ _ (vector_item {forms = row} {event = event} {events = events} are) f h =
    let group = group_of f Square row h in
    ap item_at group.is ∙ item_group group.forms group.start group.last
    ∙ ap (λ (read : Result (List Event) Fault). read >>= λ all. Ok (Many all))
    (some_is group.start group.forms event events
    (subst (λ (r : BareTrees). AreEach IsTimed r (event ∷ events)) (sym group.forms_are) are))

item_read : (f : FormTree) (item : Item) → IsItem (bare_tree f) item → item_at f ≡ Ok item
item_read f item is = item_given (bare_tree f) item is f refl

no_events_refuse : (start : ℕ) → Refuses (some_timed start none >>= λ events. Ok (Many events)) (start, why.Arguments)
unfolding each
no_events_refuse start = refl

item_refuses : (f : FormTree) (fault : Fault) → HasItemFault f fault → Refuses (item_at f) fault
item_refuses f fault (no_item other has) =
    refuses_as (item_at f) (timed_at f >>= λ event. Ok (One event)) fault (item_one f other)
    (refuses_first (timed_at f) (λ event. Ok (One event)) fault (timed_refuses f fault has))
item_refuses _ fault (in_vector {forms = forms} {start = start} {last = last} has) =
    refuses_as (item_at (Group Square forms start last)) (some_timed start forms >>= λ events. Ok (Many events)) fault
    (item_group forms start last)
    (refuses_first (some_timed start forms) (λ events. Ok (Many events)) fault
    (refuses_first (each (onto timed_at) [] forms) (some_of start) fault
    (all_refuses IsTimed HasTimedFault timed_at timed_read timed_refuses forms fault has)))
item_refuses _ _ (no_events {start = start} {last = last}) =
    refuses_as (item_at (Group Square none start last)) (some_timed start none >>= λ events. Ok (Many events))
    (start, why.Arguments) (item_group none start last) (no_events_refuse start)

pub items_both : (forms : FormTrees)
    → Both (AreEach IsItem (bare_trees forms)) (HaveItemFault forms) (each (onto item_at) [] forms)
items_both forms = all_both IsItem HasItemFault item_at item_both forms

pub items_read : (forms : FormTrees) (items : List Item) → AreEach IsItem (bare_trees forms) items
    → each (onto item_at) [] forms ≡ Ok items
items_read forms items are = all_read IsItem item_at item_read forms items are

pub items_refuse : (forms : FormTrees) (fault : Fault) → HaveItemFault forms fault
    → Refuses (each (onto item_at) [] forms) fault
items_refuse forms fault known = all_refuses IsItem HasItemFault item_at item_read item_refuses forms fault known
