-- The last events of each host and service are of different keys, and coalesce puts them in order.
use Rattle.std.proofs.Common.{◌≡◌, Bool, true, false, ◌||◌, cond, List, [], ◌∷◌, map, refl}
use mathlib.Core.Bool.{true≢false}
use Rattle.std.specs.List.{AllByRecursion, filter, list_any}
use Rattle.index_log.specs.IndexKey.{same_index_key}
use Rattle.index_log.proofs.PlacedLaws.{AreApart, placed_onto-permutes, placed_onto-rising}
use Rattle.stream_meaning.specs.Came.{Timed}
use Rattle.stream_meaning.specs.Coalesce.{replaces, newest, still_passes, event_of}
use Rattle.stream_meaning.specs.CoalesceLaws.{CoalescedAreTheNewest, CoalescedRise}

pub coalesced-permutes : CoalescedAreTheNewest
coalesced-permutes secs t came = placed_onto-permutes (map event_of (filter (still_passes secs t) (newest came)))

all-either : (P : Timed → Type 0) (t : Bool) (xs ys : List Timed) → AllByRecursion P xs → AllByRecursion P ys
    → AllByRecursion P (cond t xs ys)
all-either P true xs ys h k = h
all-either P false xs ys h k = k

all-newest : (P : Timed → Type 0) (came : List Timed) → AllByRecursion P came → AllByRecursion P (newest came)
all-newest P [] all = tt
all-newest P (older ∷ later) all =
    let rest = all-newest P later all.1 in
    all-either P (list_any (replaces older) later) (newest later) (older ∷ newest later) rest (all.0, rest)

all-passing : (P : Timed → Type 0) (test : Timed → Bool) (came : List Timed) → AllByRecursion P came
    → AllByRecursion P (filter test came)
all-passing P test [] all = tt
all-passing P test (timed ∷ came) all =
    let rest = all-passing P test came all.1 in
    all-either P (test timed) (timed ∷ filter test came) (filter test came) (all.0, rest) rest

-- no later event is of this one's key
abbrev IsLast : Timed → List Timed → Type 0
IsLast older = AllByRecursion (λ later. replaces older later ≡ false)

or_false : (s t : Bool) → s || t ≡ false → (s ≡ false) × (t ≡ false)
or_false true t e = absurd (true≢false e)
or_false false t e = (refl, e)

is_last : (older : Timed) (later : List Timed) → list_any (replaces older) later ≡ false → IsLast older later
is_last older [] e = tt
is_last older (timed ∷ later) e =
    let parts = or_false (replaces older timed) (list_any (replaces older) later) e in
    (parts.0, is_last older later parts.1)

-- of different keys each
abbrev KeysDiffer : List Timed → Type 0
KeysDiffer [] = Unit {0}
KeysDiffer (timed ∷ came) = IsLast timed came × KeysDiffer came

newest_step : (t : Bool) (older : Timed) (later : List Timed) → list_any (replaces older) later ≡ t
    → KeysDiffer (newest later) → KeysDiffer (cond t (newest later) (older ∷ newest later))
newest_step true older later e differ = differ
newest_step false older later e differ =
    (all-newest (λ timed. replaces older timed ≡ false) later (is_last older later e), differ)

newest-differ : (came : List Timed) → KeysDiffer (newest came)
newest-differ [] = tt
newest-differ (older ∷ later) = newest_step (list_any (replaces older) later) older later refl (newest-differ later)

passing_step : (t : Bool) (timed : Timed) (rest : List Timed) → IsLast timed rest → KeysDiffer rest
    → KeysDiffer (cond t (timed ∷ rest) rest)
passing_step true timed rest last differ = (last, differ)
passing_step false timed rest last differ = differ

passing-differ : (test : Timed → Bool) (came : List Timed) → KeysDiffer came → KeysDiffer (filter test came)
passing-differ test [] differ = tt
passing-differ test (timed ∷ came) differ =
    passing_step (test timed) timed (filter test came)
    (all-passing (λ later. replaces timed later ≡ false) test came differ.0) (passing-differ test came differ.1)

last-events : (timed : Timed) (came : List Timed) → IsLast timed came
    → AllByRecursion (λ other. same_index_key timed.event other ≡ false) (map event_of came)
last-events timed [] last = tt
last-events timed (later ∷ came) last = (last.0, last-events timed came last.1)

events-apart : (came : List Timed) → KeysDiffer came → AreApart (map event_of came)
events-apart [] differ = tt
events-apart (timed ∷ came) differ = (last-events timed came differ.0, events-apart came differ.1)

pub coalesced-rising : CoalescedRise
coalesced-rising secs t came =
    placed_onto-rising (map event_of (filter (still_passes secs t) (newest came)))
    (events-apart (filter (still_passes secs t) (newest came))
    (passing-differ (still_passes secs t) (newest came) (newest-differ came)))
