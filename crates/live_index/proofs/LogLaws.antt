-- Events in key order, none of which ends its key, are what a log leaves live if it writes the last of them first.
use Rattle.std.proofs.Common.{◌≡◌, ℕ, false, not, cond, List, [], ◌∷◌, ◌++◌, Option, None, Some, refl, ap, ◌∙◌}
use Rattle.std.specs.declared.cmp.Ordering.TheVariants.{Less}
use Rattle.std.specs.List.{AllByRecursion}
use Rattle.std.specs.List.Sorted.{IsStrictlySortedBy}
use Rattle.std.specs.Map.{values_of}
use Rattle.std.specs.Ordering.{is_eq, is_lt}
use Rattle.std.proofs.lemmas.Cmp.{eq_by_cmp_equiv}
use Rattle.ev_types.specs.declared.event.Event.{Event}
use Rattle.index_log.specs.IndexKey.{index_key_cmp}
use Rattle.index_log.specs.Live.{IndexLog, Write, ends_key, placed, elsewhere, written, live_events}
use Rattle.index_log.proofs.IndexKeys.{index_key_total}
use Rattle.index_log.proofs.LiveLaws.{live-nil, live-write}
use Rattle.key_map.specs.Keys.{Numbers}
use Rattle.linked_slots.specs.Table.{value_at}
use Rattle.live_index.specs.Slots.{also, events_at, events_in, IsLinked}

-- writes of the events, the last one first
abbrev pub log_of : List Event → IndexLog
log_of [] = []
log_of (event ∷ events) = log_of events ++ Write event ∷ []

-- the event comes before each of these
abbrev pub IsFirst : Event → List Event → Type 0
IsFirst event = AllByRecursion (λ other. index_key_cmp event other ≡ Less)

abbrev pub AllCurrent : List Event → Type 0
AllCurrent = AllByRecursion (λ event. ends_key event ≡ false)

elsewhere-first : (event : Event) (es : List Event) → IsFirst event es → elsewhere event es ≡ es
elsewhere-first event [] first = refl
elsewhere-first event (e ∷ es) first =
    ap (λ b. cond (not b) (e ∷ elsewhere event es) (elsewhere event es))
    ((eq_by_cmp_equiv index_key_total).symm e event ∙ ap is_eq first.0)
    ∙ ap (λ rest. e ∷ rest) (elsewhere-first event es first.1)

placed-first : (event : Event) (es : List Event) → IsFirst event es → placed event es ≡ event ∷ es
placed-first event [] first = refl
placed-first event (e ∷ es) first = ap (λ o. cond (is_lt o) (event ∷ (e ∷ es)) (e ∷ placed event es)) first.0

pub log-live : (es : List Event) → IsStrictlySortedBy index_key_cmp es → AllCurrent es → live_events (log_of es) ≡ es
unfolding IsStrictlySortedBy
log-live [] rising current = live-nil
log-live (e ∷ es) rising current =
    live-write (log_of es) e
    ∙ ap (written e) (log-live es rising.1 current.1)
    ∙ ap (λ b. cond b (elsewhere e es) (placed e (elsewhere e es))) current.0
    ∙ ap (placed e) (elsewhere-first e es rising.0)
    ∙ placed-first e es rising.0

also-current : (slot : Option Event) (es : List Event) → ((event : Event) → slot ≡ Some event → ends_key event ≡ false)
    → AllCurrent es → AllCurrent (also slot es)
also-current None es current rest = rest
also-current (Some event) es current rest = (current event refl, rest)

current_at : (table : List (Option Event)) (ns : List ℕ)
    → ((number : ℕ) (event : Event) → value_at table number ≡ Some event → ends_key event ≡ false)
    → AllCurrent (events_at table ns)
current_at table [] current = tt
current_at table (n ∷ ns) current =
    also-current (value_at table n) (events_at table ns) (current n) (current_at table ns current)

-- no event of an index ends its key
pub all_current : (numbers : Numbers) (table : List (Option Event)) → IsLinked numbers table
    → AllCurrent (events_in numbers table)
all_current numbers table linked = current_at table (values_of numbers) linked.current
