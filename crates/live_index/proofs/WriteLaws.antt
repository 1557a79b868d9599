-- What a write makes of the event of each key.
use Rattle.std.proofs.Common.{◌≡◌, Bool, true, false, not, cond, List, [], ◌∷◌, ◌++◌, Option, None, Some, refl, sym, ap}
use Rattle.std.proofs.Common.{◌∙◌}
use mathlib.Core.Bool.{true≢false}
use Rattle.std.specs.Ordering.{is_lt}
use Rattle.std.specs.List.{AllByRecursion}
use Rattle.std.proofs.lemmas.Cmp.{eq_by_cmp_equiv}
use Rattle.ev_types.specs.declared.event.Event.{Event}
use Rattle.index_log.specs.IndexKey.{index_key_cmp, same_index_key}
use Rattle.index_log.specs.Live.{IndexLog, Write, ends_key, placed, elsewhere, written, live_events}
use Rattle.index_log.proofs.LiveLaws.{live-write}
use Rattle.index_log.proofs.Rising.{live-rising}
use Rattle.key_map.specs.Keys.{IndexKey, Numbers}
use Rattle.live_index.specs.Slots.{key_of, events_in, slot_of, IsLinked, Puts}
use Rattle.live_index.proofs.LinkLaws.{key_total, same, same-is, same-self}
use Rattle.live_index.proofs.RowLaws.{find_key, same_events, find-events, events-rise}

same-sym : (k q : IndexKey) → same k q ≡ same q k
same-sym = (eq_by_cmp_equiv key_total).symm

same-key : (a b : Event) → same_index_key a b ≡ same (key_of a) (key_of b)
unfolding index_key_cmp
same-key a b = refl

-- the key of an event is not that of an event that is apart from it
apart-from : (q : IndexKey) (e event : Event) → same_index_key e event ≡ false → same (key_of event) q ≡ true
    → same q (key_of e) ≡ false
apart-from q e event apart is = apart_by (same q (key_of e)) refl
  where
    apart_by : (b : Bool) → same q (key_of e) ≡ b → same q (key_of e) ≡ false
    apart_by false h = h
    apart_by true h =
        absurd (let to : same (key_of e) (key_of event) ≡ true =
        ap (λ k. same k (key_of event)) (sym (same-is q (key_of e) h))
        ∙ ap (λ k. same k (key_of event)) (sym (same-is (key_of event) q is)) ∙ same-self (key_of event) in
        true≢false (sym to ∙ sym (same-key e event) ∙ apart))

elsewhere-at : (q : IndexKey) (event : Event) (es : List Event)
    → find_key q (elsewhere event es) ≡ cond (same (key_of event) q) None (find_key q es)
elsewhere-at q event [] = nothing (same (key_of event) q) None
  where
    nothing : (b : Bool) (r : Option Event) → r ≡ cond b r r
    nothing true r = refl
    nothing false r = refl
elsewhere-at q event (e ∷ es) =
    step (same_index_key e event) refl (same (key_of event) q) refl (elsewhere-at q event es)
  where
    step : (b : Bool) → same_index_key e event ≡ b → (c : Bool) → same (key_of event) q ≡ c
        → find_key q (elsewhere event es) ≡ cond (same (key_of event) q) None (find_key q es)
        → find_key q (cond (not (same_index_key e event)) (e ∷ elsewhere event es) (elsewhere event es))
        ≡ cond (same (key_of event) q) None (cond (same q (key_of e)) (Some e) (find_key q es))
    step true is true at ih =
        ap (λ b. find_key q (cond (not b) (e ∷ elsewhere event es) (elsewhere event es))) is ∙ ih
        ∙ ap (λ c. cond c None (find_key q es)) at
        ∙ sym (ap (λ c. cond c None (cond (same q (key_of e)) (Some e) (find_key q es))) at)
    step true is false at ih =
        let keys : key_of e ≡ key_of event = same-is (key_of e) (key_of event) (sym (same-key e event) ∙ is) in
        let off : same q (key_of e) ≡ false = ap (same q) keys ∙ sym (same-sym (key_of event) q) ∙ at in
        ap (λ b. find_key q (cond (not b) (e ∷ elsewhere event es) (elsewhere event es))) is ∙ ih
        ∙ ap (λ r. cond (same (key_of event) q) None r) (sym (ap (λ b. cond b (Some e) (find_key q es)) off))
    step false apart true at ih =
        ap (λ b. find_key q (cond (not b) (e ∷ elsewhere event es) (elsewhere event es))) apart
        ∙ ap (λ b. cond b (Some e) (find_key q (elsewhere event es))) (apart-from q e event apart at)
        ∙ ih ∙ ap (λ c. cond c None (find_key q es)) at
        ∙ sym (ap (λ c. cond c None (cond (same q (key_of e)) (Some e) (find_key q es))) at)
    step false apart false at ih =
        ap (λ b. find_key q (cond (not b) (e ∷ elsewhere event es) (elsewhere event es))) apart
        ∙ ap (λ r. cond (same q (key_of e)) (Some e) r) (ih ∙ ap (λ c. cond c None (find_key q es)) at)
        ∙ sym (ap (λ c. cond c None (cond (same q (key_of e)) (Some e) (find_key q es))) at)

placed-at : (q : IndexKey) (event : Event) (es : List Event)
    → AllByRecursion (λ other. same_index_key other event ≡ false) es
    → find_key q (placed event es) ≡ cond (same (key_of event) q) (Some event) (find_key q es)
placed-at q event [] apart = ap (λ b. cond b (Some event) None) (same-sym q (key_of event))
placed-at q event (e ∷ es) apart = step (is_lt (index_key_cmp event e)) (placed-at q event es apart.1)
  where
    swap : (b : Bool) → same (key_of event) q ≡ b
        → cond (same q (key_of e)) (Some e) (cond (same (key_of event) q) (Some event) (find_key q es))
        ≡ cond (same (key_of event) q) (Some event) (cond (same q (key_of e)) (Some e) (find_key q es))
    swap true at =
        ap (λ b. cond b (Some e) (cond (same (key_of event) q) (Some event) (find_key q es)))
        (apart-from q e event apart.0 at)
        ∙ ap (λ c. cond c (Some event) (find_key q es)) at
        ∙ sym (ap (λ c. cond c (Some event) (cond (same q (key_of e)) (Some e) (find_key q es))) at)
    swap false at =
        ap (λ c. cond (same q (key_of e)) (Some e) (cond c (Some event) (find_key q es))) at
        ∙ sym (ap (λ c. cond c (Some event) (cond (same q (key_of e)) (Some e) (find_key q es))) at)

    step : (t : Bool) → find_key q (placed event es) ≡ cond (same (key_of event) q) (Some event) (find_key q es)
        → find_key q (cond t (event ∷ (e ∷ es)) (e ∷ placed event es))
        ≡ cond (same (key_of event) q) (Some event) (cond (same q (key_of e)) (Some e) (find_key q es))
    step true ih =
        ap (λ b. cond b (Some event) (cond (same q (key_of e)) (Some e) (find_key q es))) (same-sym q (key_of event))
    step false ih = ap (λ r. cond (same q (key_of e)) (Some e) r) ih ∙ swap (same (key_of event) q) refl

all-elsewhere : (event : Event) (es : List Event)
    → AllByRecursion (λ other. same_index_key other event ≡ false) (elsewhere event es)
all-elsewhere event [] = tt
all-elsewhere event (e ∷ es) = left_by (same_index_key e event) refl (all-elsewhere event es)
  where
    left_by : (t : Bool) → same_index_key e event ≡ t
        → AllByRecursion (λ other. same_index_key other event ≡ false) (elsewhere event es)
        → AllByRecursion (λ other. same_index_key other event ≡ false)
        (cond (not t) (e ∷ elsewhere event es) (elsewhere event es))
    left_by true h k = k
    left_by false h k = (h, k)

again : (b : Bool) (s : Option Event) (r : Option Event) → cond b s (cond b None r) ≡ cond b s r
again true s r = refl
again false s r = refl

-- the event of each key once an event was put in the place of that of its key
pub put-at : (q : IndexKey) (event : Event) (es : List Event)
    → find_key q (placed event (elsewhere event es)) ≡ cond (same (key_of event) q) (Some event) (find_key q es)
put-at q event es =
    placed-at q event (elsewhere event es) (all-elsewhere event es)
    ∙ ap (λ r. cond (same (key_of event) q) (Some event) r) (elsewhere-at q event es)
    ∙ again (same (key_of event) q) (Some event) (find_key q es)

-- the event of each key after a write
written-at : (q : IndexKey) (event : Event) (es : List Event)
    → find_key q (written event es) ≡ cond (same (key_of event) q) (slot_of event) (find_key q es)
written-at q event es = written_by (ends_key event)
  where
    written_by : (ends : Bool)
        → find_key q (cond ends (elsewhere event es) (placed event (elsewhere event es)))
        ≡ cond (same (key_of event) q) (cond ends None (Some event)) (find_key q es)
    written_by true = elsewhere-at q event es
    written_by false = put-at q event es

-- events that changed at the key of an event alone are live after the log with its write
pub puts-represent : (event : Event) (numbers numbers' : Numbers) (table table' : List (Option Event))
    → IsLinked numbers table → IsLinked numbers' table'
    → Puts (key_of event) (slot_of event) numbers table numbers' table' → (log : IndexLog)
    → events_in numbers table ≡ live_events log → events_in numbers' table' ≡ live_events (log ++ Write event ∷ [])
puts-represent event numbers numbers' table table' linked linked' puts log live =
    same_events (events_in numbers' table') (live_events (log ++ Write event ∷ []))
    (events-rise numbers' table' linked') (live-rising (log ++ Write event ∷ []))
    (λ q. find-events numbers' table' linked' q ∙ puts q
    ∙ ap (λ r. cond (same (key_of event) q) (slot_of event) r)
    (sym (find-events numbers table linked q) ∙ ap (find_key q) live)
    ∙ sym (written-at q event (live_events log)) ∙ ap (find_key q) (sym (live-write log event)))
