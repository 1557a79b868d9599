-- Events that are put in by key keep their number, each as often as before.
use Rattle.std.proofs.Common.{◌≡◌, Bool, true, false, cond, List, [], ◌∷◌, ◌++◌, subst}
use Rattle.std.specs.Ordering.{is_lt}
use Rattle.std.specs.List.{AllByRecursion}
use Rattle.std.specs.List.Sorted.{IsPermutation}
use Rattle.std.proofs.lemmas.List.{append-nil}
use Rattle.std.proofs.lemmas.List.Sorted.{IsPermutation-refl, IsPermutation-sym, IsPermutation-cons}
use Rattle.std.proofs.lemmas.List.Sorted.{IsPermutation-middle, IsPermutation-append_right, IsPermutation-trans}
use Rattle.ev_types.specs.declared.event.Event.{Event}
use Rattle.index_log.specs.IndexKey.{index_key_cmp, same_index_key}
use Rattle.index_log.specs.Live.{IndexLog, kept, placed, placed_onto, live_events}
use Rattle.index_log.proofs.Rising.{IsRising, all-placed, rising-placed, nothing_rises}

-- an event moves over those before it
moved : (xs ys : List Event) (event : Event) → IsPermutation (event ∷ (xs ++ ys)) (xs ++ event ∷ ys)
moved xs ys event = IsPermutation-sym (xs ++ event ∷ ys) (event ∷ (xs ++ ys)) (IsPermutation-middle xs event ys)

either-permutes : (t : Bool) (xs ys zs : List Event) → IsPermutation xs ys → IsPermutation xs zs
    → IsPermutation xs (cond t ys zs)
either-permutes true xs ys zs p q = p
either-permutes false xs ys zs p q = q

placed-permutes : (event : Event) (es : List Event) → IsPermutation (event ∷ es) (placed event es)
placed-permutes event [] = IsPermutation-refl (event ∷ [])
placed-permutes event (first ∷ es) =
    either-permutes (is_lt (index_key_cmp event first)) (event ∷ (first ∷ es)) (event ∷ (first ∷ es))
    (first ∷ placed event es)
    (IsPermutation-refl (event ∷ (first ∷ es)))
    (IsPermutation-trans (event ∷ (first ∷ es)) (first ∷ (event ∷ es)) (first ∷ placed event es)
    (moved (first ∷ []) es event)
    (IsPermutation-cons first (event ∷ es) (placed event es) (placed-permutes event es)))

onto-permutes : (sorted es : List Event) → IsPermutation (es ++ sorted) (placed_onto sorted es)
onto-permutes sorted [] = IsPermutation-refl sorted
onto-permutes sorted (event ∷ es) =
    IsPermutation-trans (event ∷ (es ++ sorted)) (es ++ event ∷ sorted) (placed_onto (placed event sorted) es)
    (moved es sorted event)
    (IsPermutation-trans (es ++ event ∷ sorted) (es ++ placed event sorted) (placed_onto (placed event sorted) es)
    (IsPermutation-append_right es (event ∷ sorted) (placed event sorted) (placed-permutes event sorted))
    (onto-permutes (placed event sorted) es))

pub placed_onto-permutes : (es : List Event) → IsPermutation es (placed_onto [] es)
placed_onto-permutes es =
    subst (λ (l : List Event). IsPermutation l (placed_onto [] es)) (append-nil es) (onto-permutes [] es)

pub live-permutes : (log : IndexLog) → IsPermutation (kept log) (live_events log)
unfolding live_events
live-permutes log = placed_onto-permutes (kept log)

-- ---- in strictly rising order, where no key comes twice

-- no later event is of the first one's key
abbrev pub AreApart : List Event → Type 0
AreApart [] = Unit {0}
AreApart (event ∷ es) = AllByRecursion (λ other. same_index_key event other ≡ false) es × AreApart es

-- none of these is of the key of one that is put in already
abbrev AreOthers : List Event → List Event → Type 0
AreOthers sorted [] = Unit {0}
AreOthers sorted (event ∷ es) =
    AllByRecursion (λ other. same_index_key other event ≡ false) sorted × AreOthers sorted es

others-placed : (event : Event) (sorted es : List Event)
    → AllByRecursion (λ other. same_index_key event other ≡ false) es → AreOthers sorted es
    → AreOthers (placed event sorted) es
others-placed event sorted [] apart others = tt
others-placed event sorted (first ∷ es) apart others = (
  all-placed (λ other. same_index_key other first ≡ false) event sorted apart.0 others.0,
  others-placed event sorted es apart.1 others.1,
)

rising-onto : (sorted es : List Event) → IsRising sorted → AreApart es → AreOthers sorted es
    → IsRising (placed_onto sorted es)
rising-onto sorted [] rising apart others = rising
rising-onto sorted (event ∷ es) rising apart others =
    rising-onto (placed event sorted) es (rising-placed event sorted others.0 rising) apart.1
    (others-placed event sorted es apart.0 others.1)

nothing_else : (es : List Event) → AreOthers [] es
nothing_else [] = tt
nothing_else (event ∷ es) = (tt, nothing_else es)

pub placed_onto-rising : (es : List Event) → AreApart es → IsRising (placed_onto [] es)
placed_onto-rising es apart = rising-onto [] es nothing_rises apart (nothing_else es)
