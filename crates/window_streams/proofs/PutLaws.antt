-- An event that is put into a list in strictly rising key order, where it replaces the one of its key.
use Rattle.std.proofs.Common.{◌≡◌, not, cond, List, [], ◌∷◌, refl, sym, ap, ◌∙◌}
use Rattle.std.specs.declared.cmp.Ordering.{Ordering}
use Rattle.std.specs.declared.cmp.Ordering.TheVariants.{Less, Equal, Greater}
use Rattle.std.specs.BTreeSet.{replace_key}
use Rattle.std.specs.Ordering.{is_eq, is_lt, match_ordering, ordering_reverse}
use Rattle.std.specs.List.{AllByRecursion}
use Rattle.std.specs.List.Sorted.{IsStrictlySortedBy}
use Rattle.ev_types.specs.declared.event.Event.{Event}
use Rattle.index_log.specs.IndexKey.{index_key_cmp}
use Rattle.index_log.specs.Live.{placed, elsewhere}
use Rattle.index_log.proofs.IndexKeys.{index_key_total, AreAfter, placed-first}
use Rattle.index_log.proofs.Rising.{IsRising}

-- each event of the list comes after this one
abbrev AllAfter : Event → List Event → Type 0
AllAfter event = AllByRecursion (λ other. index_key_cmp event other ≡ Less)

turned : (event other : Event) (r : Ordering) → index_key_cmp event other ≡ r
    → index_key_cmp other event ≡ ordering_reverse r
turned event other r e = index_key_total.antisymm other event ∙ ap ordering_reverse e

after-less : (event first : Event) (es : List Event) → index_key_cmp event first ≡ Less → AllAfter first es
    → AllAfter event es
after-less event first [] less k = tt
after-less event first (a ∷ es) less k =
    (index_key_total.trans event first a less k.0, after-less event first es less k.1)

after-same : (event first : Event) (es : List Event) → index_key_cmp event first ≡ Equal → AllAfter first es
    → AllAfter event es
after-same event first [] same k = tt
after-same event first (a ∷ es) same k =
    (index_key_total.congr event first a same ∙ k.0, after-same event first es same k.1)

elsewhere-after : (event : Event) (es : List Event) → AllAfter event es → elsewhere event es ≡ es
elsewhere-after event [] k = refl
elsewhere-after event (a ∷ es) k =
    ap (λ r. cond (not (is_eq r)) (a ∷ elsewhere event es) (elsewhere event es)) (turned event a Less k.0)
    ∙ ap (λ es. a ∷ es) (elsewhere-after event es k.1)

are_after : (event : Event) (es : List Event) → AllAfter event es → AreAfter event es
are_after event [] k = tt
are_after event (a ∷ es) k = (ap is_lt k.0, are_after event es k.1)

put-before : (event : Event) (es : List Event) → AllAfter event es → placed event (elsewhere event es) ≡ event ∷ es
put-before event es k = ap (placed event) (elsewhere-after event es k) ∙ placed-first event es (are_after event es k)

put_by : (event first : Event) (es : List Event) (r : Ordering) → index_key_cmp event first ≡ r → AllAfter first es →
    replace_key index_key_cmp es event ≡ placed event (elsewhere event es) →
    match_ordering r (event ∷ first ∷ es) (event ∷ es) (first ∷ replace_key index_key_cmp es event)
    ≡ placed event (elsewhere event (first ∷ es))
put_by event first es Less e k ih = sym (put-before event (first ∷ es) (e, after-less event first es e k))
put_by event first es Equal e k ih =
    sym (ap (λ r. placed event (cond (not (is_eq r)) (first ∷ elsewhere event es) (elsewhere event es)))
    (turned event first Equal e)
    ∙ put-before event es (after-same event first es e k))
put_by event first es Greater e k ih =
    ap (λ es. first ∷ es) ih
    ∙ sym (ap (λ r. placed event (cond (not (is_eq r)) (first ∷ elsewhere event es) (elsewhere event es)))
    (turned event first Greater e)
    ∙ ap (λ r. cond (is_lt r) (event ∷ (first ∷ elsewhere event es)) (first ∷ placed event (elsewhere event es))) e)

pub replace_is_put : (event : Event) (es : List Event) → IsRising es
    → replace_key index_key_cmp es event ≡ placed event (elsewhere event es)
unfolding IsStrictlySortedBy
replace_is_put event [] k = refl
replace_is_put event (first ∷ es) k =
    put_by event first es (index_key_cmp event first) refl k.0 (replace_is_put event es k.1)
