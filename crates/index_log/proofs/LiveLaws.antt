-- What one more write or reap changes in what is live.
use Rattle.std.proofs.Common.{◌≡◌, ℕ, Bool, true, false, not, ◌||◌, cond, List, [], ◌∷◌, ◌++◌, refl, sym, ap, ◌∙◌}
use Rattle.std.specs.Ordering.{is_lt}
use Rattle.std.specs.List.{AllByRecursion, filter, list_any}
use Rattle.ev_types.specs.Expiry.{is_expired, is_late}
use Rattle.index_log.specs.IndexKey.{index_key_cmp}
use Rattle.ev_types.specs.declared.event.Event.{Event}
use Rattle.index_log.specs.Live.{Logged, Write, Reap, ends, ends_key, is_live, kept, placed, placed_onto, live_events}
use Rattle.index_log.specs.Live.{written, reaped}
use Rattle.index_log.proofs.IndexKeys.{filter-placed_onto}

placed_onto-append : (sorted es bs : List Event)
    → placed_onto sorted (es ++ bs) ≡ placed_onto (placed_onto sorted es) bs
placed_onto-append sorted [] bs = refl
placed_onto-append sorted (a ∷ es) bs = placed_onto-append (placed a sorted) es bs

-- the events that the last step of a log does not end
abbrev pub spared : Logged → List Event → List Event
spared last = filter (λ event. not (ends event last))

any-append : (event : Event) (log : List Logged) (last : Logged)
    → list_any (ends event) (log ++ last ∷ []) ≡ list_any (ends event) log || ends event last
any-append event [] last = any_last (ends event last)
  where
    any_last : (t : Bool) → t || false ≡ t
    any_last true = refl
    any_last false = refl
any-append event (first ∷ log) last =
    ap (λ t. ends event first || t) (any-append event log last)
    ∙ sym (or_assoc (ends event first) (list_any (ends event) log) (ends event last))
  where
    or_assoc : (s t u : Bool) → (s || t) || u ≡ s || (t || u)
    or_assoc true t u = refl
    or_assoc false t u = refl

-- of an event that is not live: by its own state (s), by what came after it (t) or by the last step (u)
kept_step : (s t u : Bool) (event : Event) (rest new : List Event) →
    cond (not (s || (t || u))) (event ∷ (rest ++ new)) (rest ++ new)
    ≡ cond (not (s || t)) (cond (not u) (event ∷ rest) rest) rest ++ new
kept_step true t u event rest new = refl
kept_step false true u event rest new = refl
kept_step false false true event rest new = refl
kept_step false false false event rest new = refl

-- a filter of a list that may begin with the event
filter_step : (t : Bool) (p : Event → Bool) (event : Event) (rest : List Event)
    → cond t (cond (p event) (event ∷ filter p rest) (filter p rest)) (filter p rest)
    ≡ filter p (cond t (event ∷ rest) rest)
filter_step true p event rest = refl
filter_step false p event rest = refl

pub kept-append : (log : List Logged) (last : Logged)
    → kept (log ++ last ∷ []) ≡ spared last (kept log) ++ kept (last ∷ [])
kept-append [] last = refl
kept-append (Write event ∷ log) last =
    ap (λ t. cond (not (ends_key event || t)) (event ∷ kept (log ++ last ∷ [])) (kept (log ++ last ∷ [])))
    (any-append event log last)
    ∙ ap (λ es. cond (not (ends_key event || (list_any (ends event) log || ends event last))) (event ∷ es) es)
    (kept-append log last)
    ∙ kept_step (ends_key event) (list_any (ends event) log) (ends event last) event (spared last (kept log))
    (kept (last ∷ []))
    ∙ ap (λ es. es ++ kept (last ∷ []))
    (filter_step (is_live event log) (λ other. not (ends other last)) event (kept log))
kept-append (Reap t ∷ log) last = kept-append log last

-- before anything was done nothing is live
pub live-nil : live_events [] ≡ []
unfolding live_events
live-nil = refl

pub live-append : (log : List Logged) (last : Logged)
    → live_events (log ++ last ∷ []) ≡ placed_onto (spared last (live_events log)) (kept (last ∷ []))
unfolding live_events
live-append log last =
    ap (placed_onto []) (kept-append log last)
    ∙ placed_onto-append [] (spared last (kept log)) (kept (last ∷ []))
    ∙ ap (λ es. placed_onto es (kept (last ∷ [])))
    (sym (filter-placed_onto (λ event. not (ends event last)) [] (kept log) tt))

write_step : (t : Bool) (event : Event) (others : List Event)
    → placed_onto others (cond (not (t || false)) (event ∷ []) []) ≡ cond t others (placed event others)
write_step true event others = refl
write_step false event others = refl

pub live-write : (log : List Logged) (event : Event)
    → live_events (log ++ Write event ∷ []) ≡ written event (live_events log)
live-write log event =
    live-append log (Write event) ∙ write_step (ends_key event) event (spared (Write event) (live_events log))

pub live-reap : (log : List Logged) (t : ℕ) → live_events (log ++ Reap t ∷ []) ≡ reaped t (live_events log)
live-reap log t = live-append log (Reap t)

-- ---- no live event ends its key, so it is expired exactly if it is late

abbrev IsCurrent : Event → Type 0
IsCurrent event = ends_key event ≡ false

cond-all : (t : Bool) (xs ys : List Event) → AllByRecursion IsCurrent xs → AllByRecursion IsCurrent ys
    → AllByRecursion IsCurrent (cond t xs ys)
cond-all true xs ys h k = h
cond-all false xs ys h k = k

placed-all : (event : Event) (es : List Event) → IsCurrent event → AllByRecursion IsCurrent es
    → AllByRecursion IsCurrent (placed event es)
placed-all event [] h k = (h, tt)
placed-all event (first ∷ es) h k =
    cond-all (is_lt (index_key_cmp event first)) (event ∷ first ∷ es) (first ∷ placed event es) (h, k)
    (k.0, placed-all event es h k.1)

placed_onto-all : (sorted es : List Event) → AllByRecursion IsCurrent sorted → AllByRecursion IsCurrent es
    → AllByRecursion IsCurrent (placed_onto sorted es)
placed_onto-all sorted [] h k = h
placed_onto-all sorted (event ∷ es) h k = placed_onto-all (placed event sorted) es (placed-all event sorted k.0 h) k.1

-- of an event that is not live: by its own state (s) or by what came after it (t)
kept_first : (s t : Bool) (event : Event) (rest : List Event) → ends_key event ≡ s → AllByRecursion IsCurrent rest
    → AllByRecursion IsCurrent (cond (not (s || t)) (event ∷ rest) rest)
kept_first true t event rest h k = k
kept_first false true event rest h k = k
kept_first false false event rest h k = (h, k)

kept-all : (log : List Logged) → AllByRecursion IsCurrent (kept log)
kept-all [] = tt
kept-all (Write event ∷ log) =
    kept_first (ends_key event) (list_any (ends event) log) event (kept log) refl (kept-all log)
kept-all (Reap t ∷ log) = kept-all log

live-all : (log : List Logged) → AllByRecursion IsCurrent (live_events log)
unfolding live_events
live-all log = placed_onto-all [] (kept log) tt (kept-all log)

expired-late : (t : ℕ) (es : List Event) → AllByRecursion IsCurrent es
    → filter (λ event. not (is_expired t event)) es ≡ reaped t es
expired-late t [] k = refl
expired-late t (event ∷ es) k =
    ap
    (λ s. cond (not (s || is_late t event)) (event ∷ filter (λ other. not (is_expired t other)) es)
    (filter (λ other. not (is_expired t other)) es))
    k.0
    ∙ ap (λ rest. cond (not (is_late t event)) (event ∷ rest) rest) (expired-late t es k.1)

pub live-expired : (log : List Logged) (t : ℕ)
    → live_events (log ++ Reap t ∷ []) ≡ filter (λ event. not (is_expired t event)) (live_events log)
live-expired log t = live-reap log t ∙ sym (expired-late t (live_events log) (live-all log))
