-- The live events of a log are in strictly rising order of keys.
use Rattle.std.proofs.Common.{◌≡◌, Bool, true, false, not, cond, List, [], ◌∷◌, ◌++◌, refl, sym, ap, ◌∙◌, subst}
use mathlib.Core.Bool.{true≢false}
use Rattle.std.specs.declared.cmp.Ordering.{Ordering}
use Rattle.std.specs.declared.cmp.Ordering.TheVariants.{Less, Equal, Greater}
use Rattle.std.specs.Ordering.{is_eq, is_lt, ordering_reverse}
use Rattle.std.specs.List.{AllByRecursion, filter}
use Rattle.std.specs.List.Sorted.{IsStrictlySortedBy}
use Rattle.std.proofs.lemmas.List.{append-nil, append_assoc}
use Rattle.ev_types.specs.declared.event.Event.{Event}
use Rattle.index_log.specs.Live.{IndexLog, Logged, Write, Reap, ends_key, placed, elsewhere, written, live_events}
use Rattle.index_log.specs.IndexKey.{index_key_cmp, same_index_key}
use Rattle.index_log.proofs.IndexKeys.{index_key_total}
use Rattle.index_log.proofs.LiveLaws.{live-nil, live-write, live-reap}

abbrev pub IsRising : List Event → Type 0
IsRising = IsStrictlySortedBy index_key_cmp

-- ---- what is left of a rising list where some of it is taken out

all-cond : (P : Event → Type 0) (t : Bool) (xs ys : List Event) → AllByRecursion P xs → AllByRecursion P ys
    → AllByRecursion P (cond t xs ys)
all-cond P true xs ys h k = h
all-cond P false xs ys h k = k

rising-cond : (t : Bool) (xs ys : List Event) → IsRising xs → IsRising ys → IsRising (cond t xs ys)
rising-cond true xs ys h k = h
rising-cond false xs ys h k = k

all-filter : (P : Event → Type 0) (test : Event → Bool) (es : List Event) → AllByRecursion P es
    → AllByRecursion P (filter test es)
all-filter P test [] k = tt
all-filter P test (a ∷ es) k =
    let rest = all-filter P test es k.1 in all-cond P (test a) (a ∷ filter test es) (filter test es) (k.0, rest) rest

pub rising-filter : (test : Event → Bool) (es : List Event) → IsRising es → IsRising (filter test es)
unfolding IsStrictlySortedBy
rising-filter test [] k = tt
rising-filter test (a ∷ es) k =
    let rest = rising-filter test es k.1 in
    rising-cond (test a) (a ∷ filter test es) (filter test es)
    (all-filter (λ b. index_key_cmp a b ≡ Less) test es k.0, rest) rest

-- ---- an event that is put in

pub all-placed : (P : Event → Type 0) (event : Event) (es : List Event) → P event → AllByRecursion P es
    → AllByRecursion P (placed event es)
all-placed P event [] h k = (h, tt)
all-placed P event (first ∷ es) h k =
    all-cond P (is_lt (index_key_cmp event first)) (event ∷ first ∷ es) (first ∷ placed event es) (h, k)
    (k.0, all-placed P event es h k.1)

all_after : (event first : Event) (es : List Event) → index_key_cmp event first ≡ Less
    → AllByRecursion (λ other. index_key_cmp first other ≡ Less) es
    → AllByRecursion (λ other. index_key_cmp event other ≡ Less) es
all_after event first [] e k = tt
all_after event first (a ∷ es) e k = (index_key_total.trans event first a e k.0, all_after event first es e k.1)

rising-placed_by : (event first : Event) (es : List Event) (r : Ordering) → index_key_cmp event first ≡ r →
    same_index_key first event ≡ false → IsRising (first ∷ es) → IsRising (placed event es) →
    IsRising (cond (is_lt r) (event ∷ first ∷ es) (first ∷ placed event es))
unfolding IsStrictlySortedBy
rising-placed_by event first es Less e apart k ih = ((e, all_after event first es e k.0), k)
rising-placed_by event first es Equal e apart k ih =
    absurd (true≢false (sym (ap is_eq (index_key_total.antisymm first event ∙ ap ordering_reverse e)) ∙ apart))
rising-placed_by event first es Greater e apart k ih = (
  all-placed (λ other. index_key_cmp first other ≡ Less) event es
      (index_key_total.antisymm first event ∙ ap ordering_reverse e) k.0,
  ih,
)

pub rising-placed : (event : Event) (es : List Event) → AllByRecursion (λ other. same_index_key other event ≡ false) es
    → IsRising es → IsRising (placed event es)
unfolding IsStrictlySortedBy
rising-placed event [] apart k = (tt, tt)
rising-placed event (first ∷ es) apart k =
    rising-placed_by event first es (index_key_cmp event first) refl apart.0 k (rising-placed event es apart.1 k.1)

-- ---- the steps of a log

left_by : (p : Event → Bool) (t : Bool) (a : Event) (rest : List Event) → p a ≡ t
    → AllByRecursion (λ other. p other ≡ false) rest
    → AllByRecursion (λ other. p other ≡ false) (cond (not t) (a ∷ rest) rest)
left_by p true a rest e k = k
left_by p false a rest e k = (e, k)

all_left : (p : Event → Bool) (es : List Event)
    → AllByRecursion (λ other. p other ≡ false) (filter (λ other. not (p other)) es)
all_left p [] = tt
all_left p (a ∷ es) = left_by p (p a) a (filter (λ other. not (p other)) es) refl (all_left p es)

rising-written : (event : Event) (es : List Event) → IsRising es → IsRising (written event es)
rising-written event es k =
    let rest = rising-filter (λ other. not (same_index_key other event)) es k in
    rising-cond (ends_key event) (elsewhere event es) (placed event (elsewhere event es)) rest
    (rising-placed event (elsewhere event es) (all_left (λ other. same_index_key other event) es) rest)

rising-step : (log : IndexLog) (last : Logged) → IsRising (live_events log) → IsRising (live_events (log ++ last ∷ []))
rising-step log (Write event) k = subst IsRising (sym (live-write log event)) (rising-written event (live_events log) k)
rising-step log (Reap t) k = subst IsRising (sym (live-reap log t)) (rising-filter _ (live_events log) k)

rising-more : (log later : IndexLog) → IsRising (live_events log) → IsRising (live_events (log ++ later))
rising-more log [] k = subst (λ (l : IndexLog). IsRising (live_events l)) (sym (append-nil log)) k
rising-more log (last ∷ later) k =
    subst (λ (l : IndexLog). IsRising (live_events l)) (append_assoc log (last ∷ []) later)
    (rising-more (log ++ last ∷ []) later (rising-step log last k))

pub nothing_rises : IsRising []
unfolding IsStrictlySortedBy
nothing_rises = tt

pub live-rising : (log : IndexLog) → IsRising (live_events log)
live-rising log = rising-more [] log (subst IsRising (sym live-nil) nothing_rises)
