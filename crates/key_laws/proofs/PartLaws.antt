-- The run on the arrivals of one key is the part of the whole run that is of the key.
use Rattle.std.proofs.Common.{◌≡◌, ℕ, ◌-◌, ◌%◌, ◌==◌, Bool, true, false, ◌&&◌, cond, List, [], ◌∷◌, ◌++◌, map, Option}
use Rattle.std.proofs.Common.{Some, None, refl, sym, ap, ◌∙◌}
use mathlib.Core.Bool.{true≢false}
use Rattle.std.specs.List.{AllByRecursion, filter, list_all}
use Rattle.std.proofs.lemmas.List.{append-nil}
use Rattle.std.proofs.lemmas.List.Elements.{filter-append}
use Rattle.ev_types.specs.declared.event.Event.{Event}
use Rattle.ev_types.specs.declared.field.Field.{Field}
use Rattle.ev_types.specs.declared.field.Field.TheVariants.{Host, Service, State, Description, Time, Ttl, Metric}
use Rattle.ev_types.specs.declared.field.Field.TheVariants.{Attribute}
use Rattle.ev_types.specs.declared.item.Item.TheVariants.{One, Many}
use Rattle.ev_types.specs.declared.item.Output.{Output}
use Rattle.ev_types.specs.declared.item.Output.TheVariants.{Notice as notice, Write as write}
use Rattle.ev_types.specs.declared.settings.Expiry.{Expiry}
use Rattle.ev_types.specs.declared.settings.KeepKey.{KeepKey}
use Rattle.ev_types.specs.declared.value.Value.{Value}
use Rattle.ev_types.specs.Expiry.{is_expired}
use Rattle.ev_types.specs.Field.{text_value}
use Rattle.ev_types.specs.Key.{same_key, event_key}
use Rattle.ev_types.specs.Rebirth.{expired_copy}
use Rattle.index_log.specs.Live.{IndexLog, Write, Reap, live_events}
use Rattle.index_log.specs.OfKey.{are_index_fields, event_has, log_of_key}
use Rattle.index_log.proofs.OfKeyLaws.{both_true, keys_have_logs}
use Rattle.stream_plan.specs.Tree.{StreamTrees}
use Rattle.stream_meaning.specs.declared.entry.Entry.TheVariants.{Tick, Item as In}
use Rattle.stream_meaning.specs.History.{History, since, ◌▸◌, begun, moment_of}
use Rattle.stream_meaning.specs.Outputs.{outputs_at, outputs_of}
use Rattle.stream_meaning.specs.Arrivals.{Arrival, Elapsed, Post, CoreState, writes_among, notices_among, entered}
use Rattle.stream_meaning.specs.Arrivals.{streamed, expired_copies, with_reap, fed_back, swept, state_from, state_after}
use Rattle.stream_meaning.specs.Arrivals.{notices_of}
use Rattle.stream_meaning.specs.Keys.{notice_has, output_has}
use Rattle.stream_meaning.specs.KeyLaws.{outputs_for, HasOneKey}
use Rattle.stream_meaning.specs.Laws.{of_key}
use Rattle.stream_meaning.proofs.KeptEvents.{all-append}
use Rattle.key_laws.specs.Apart.{keeps_field, expiry_keeps, plan_apart, keys_apart}
use Rattle.key_laws.proofs.KeyMoments.{key_moments}
use Rattle.key_laws.proofs.PlainLaws.{plan_gives_one, plan_splits}
use Rattle.key_laws.proofs.SplitLaws.{Splits, GivesOne}
use Rattle.key_laws.specs.Laws.{arrivals_of, KeysHaveTheirNotices, IsOfOneKey, NoticesAreOfOneKey}
use Rattle.key_laws.specs.Laws.{KeysHaveTheirLiveEvents}

-- ---- notices and writes of a key

notices_of_key : (fields : List Field) (key : List Value) (os : List Output)
    → filter (notice_has fields key) (notices_among os) ≡ notices_among (filter (output_has fields key) os)
notices_of_key fields key [] = refl
notices_of_key fields key (write event ∷ os) = notices_of_key fields key os ∙ step (event_has fields key event)
  where
    step : (t : Bool)
        → notices_among (filter (output_has fields key) os)
        ≡ notices_among (cond t (write event ∷ filter (output_has fields key) os) (filter (output_has fields key) os))
    step true = refl
    step false = refl
notices_of_key fields key (notice given ∷ os) =
    ap (λ l. cond (notice_has fields key given) (given ∷ l) l) (notices_of_key fields key os)
    ∙ step (notice_has fields key given)
  where
    step : (t : Bool)
        → cond t (given ∷ notices_among (filter (output_has fields key) os))
        (notices_among (filter (output_has fields key) os))
        ≡ notices_among (cond t (notice given ∷ filter (output_has fields key) os) (filter (output_has fields key) os))
    step true = refl
    step false = refl

writes_of_key : (fields : List Field) (key : List Value) (os : List Output)
    → log_of_key fields key (writes_among os) ≡ writes_among (filter (output_has fields key) os)
writes_of_key fields key [] = refl
writes_of_key fields key (notice given ∷ os) = writes_of_key fields key os ∙ step (notice_has fields key given)
  where
    step : (t : Bool)
        → writes_among (filter (output_has fields key) os)
        ≡ writes_among (cond t (notice given ∷ filter (output_has fields key) os) (filter (output_has fields key) os))
    step true = refl
    step false = refl
writes_of_key fields key (write event ∷ os) =
    ap (λ l. cond (event_has fields key event) (Write event ∷ l) l) (writes_of_key fields key os)
    ∙ step (event_has fields key event)
  where
    step : (t : Bool)
        → cond t (Write event ∷ writes_among (filter (output_has fields key) os))
        (writes_among (filter (output_has fields key) os))
        ≡ writes_among (cond t (write event ∷ filter (output_has fields key) os) (filter (output_has fields key) os))
    step true = refl
    step false = refl

log-append : (fields : List Field) (key : List Value) (log more : IndexLog)
    → log_of_key fields key (log ++ more) ≡ log_of_key fields key log ++ log_of_key fields key more
log-append fields key [] more = refl
log-append fields key (Reap t ∷ log) more = ap (λ l. Reap t ∷ l) (log-append fields key log more)
log-append fields key (Write event ∷ log) more =
    ap (λ l. cond (event_has fields key event) (Write event ∷ l) l) (log-append fields key log more)
    ∙ step (event_has fields key event) (log_of_key fields key log) (log_of_key fields key more)
  where
    step : (t : Bool) (xs ys : IndexLog)
        → cond t (Write event ∷ (xs ++ ys)) (xs ++ ys) ≡ cond t (Write event ∷ xs) xs ++ ys
    step true xs ys = refl
    step false xs ys = refl

-- ---- the key of an event that comes again

copy_key : (fields : List Field) (keep : List KeepKey) (event : Event) (now : ℕ) → are_index_fields fields ≡ true →
    list_all (keeps_field keep) fields ≡ true →
    event_key (expired_copy keep event now) fields ≡ event_key event fields
copy_key [] keep event now within kept = refl
copy_key (Host ∷ fields) keep event now within kept =
    let parts = both_true (keeps_field keep Host) (list_all (keeps_field keep) fields) kept in
    ap (λ t. text_value (cond t event.host None) ∷ event_key (expired_copy keep event now) fields) parts.0
    ∙ ap (λ (k : List Value). text_value event.host ∷ k) (copy_key fields keep event now within parts.1)
copy_key (Service ∷ fields) keep event now within kept =
    let parts = both_true (keeps_field keep Service) (list_all (keeps_field keep) fields) kept in
    ap (λ t. text_value (cond t event.service None) ∷ event_key (expired_copy keep event now) fields) parts.0
    ∙ ap (λ (k : List Value). text_value event.service ∷ k) (copy_key fields keep event now within parts.1)
copy_key (State ∷ fields) keep event now within kept = absurd (true≢false (sym within))
copy_key (Description ∷ fields) keep event now within kept = absurd (true≢false (sym within))
copy_key (Time ∷ fields) keep event now within kept = absurd (true≢false (sym within))
copy_key (Ttl ∷ fields) keep event now within kept = absurd (true≢false (sym within))
copy_key (Metric ∷ fields) keep event now within kept = absurd (true≢false (sym within))
copy_key (Attribute name ∷ fields) keep event now within kept = absurd (true≢false (sym within))

-- a change that leaves what a filter looks at
filter-changed : (p q : Event → Bool) (f : Event → Event) → ((event : Event) → p (f event) ≡ p event)
    → (es : List Event) → filter p (map f (filter q es)) ≡ map f (filter q (filter p es))
filter-changed p q f same [] = refl
filter-changed p q f same (event ∷ es) = step (q event) (p event) refl refl (filter-changed p q f same es)
  where
    step : (t u : Bool) → q event ≡ t → p event ≡ u → filter p (map f (filter q es)) ≡ map f (filter q (filter p es)) →
        filter p (map f (cond t (event ∷ filter q es) (filter q es)))
        ≡ map f (filter q (cond u (event ∷ filter p es) (filter p es)))
    step true true e d ih =
        ap (λ s. cond s (f event ∷ filter p (map f (filter q es))) (filter p (map f (filter q es)))) (same event ∙ d)
        ∙ ap (λ l. f event ∷ l) ih
        ∙ sym (ap (λ s. map f (cond s (event ∷ filter q (filter p es)) (filter q (filter p es)))) e)
    step true false e d ih =
        ap (λ s. cond s (f event ∷ filter p (map f (filter q es))) (filter p (map f (filter q es)))) (same event ∙ d)
        ∙ ih
    step false true e d ih =
        ih ∙ sym (ap (λ s. map f (cond s (event ∷ filter q (filter p es)) (filter q (filter p es)))) e)
    step false false e d ih = ih

-- ---- what comes to a plan are single events

abbrev IsOneByOne : History → Type 0
IsOneByOne (since start) = Unit {0}
IsOneByOne (h ▸ Tick) = IsOneByOne h
IsOneByOne (h ▸ In (One event)) = IsOneByOne h
IsOneByOne (h ▸ In (Many es)) = ⊥

module _ (plan : StreamTrees) where
  streams_one_by_one : (es : List Event) (state : CoreState) → IsOneByOne state.history
      → IsOneByOne (streamed plan es state).history
  streams_one_by_one [] state k = k
  streams_one_by_one (event ∷ es) state k = streams_one_by_one es (entered plan (In (One event)) state) k

  sweeps_one_by_one : (expiry : Option Expiry) (state : CoreState) → IsOneByOne state.history
      → IsOneByOne (swept plan expiry state).history
  sweeps_one_by_one None state k = k
  sweeps_one_by_one (Some expiry) state k =
      step ((moment_of state.history - begun state.history) % expiry.interval == 0)
    where
      step : (t : Bool) → IsOneByOne (cond t (fed_back plan expiry.keep state) state).history
      step true = streams_one_by_one (expired_copies expiry.keep state) (with_reap state) k
      step false = k

  comes_one_by_one : (expiry : Option Expiry) (arrivals : List Arrival) (state : CoreState) → IsOneByOne state.history
      → IsOneByOne (state_from plan expiry arrivals state).history
  comes_one_by_one expiry [] state k = k
  comes_one_by_one expiry (Elapsed ∷ more) state k =
      comes_one_by_one expiry more (swept plan expiry (entered plan Tick state))
      (sweeps_one_by_one expiry (entered plan Tick state) k)
  comes_one_by_one expiry (Post event ∷ more) state k =
      comes_one_by_one expiry more (entered plan (In (One event)) state) k

-- each output over such a history is of one key
all_of_one : (fields : List Field) (plan : StreamTrees) → GivesOne fields plan → (h : History) → IsOneByOne h
    → AllByRecursion (HasOneKey fields) (outputs_of plan h)
all_of_one fields plan gives (since start) k = tt
all_of_one fields plan gives (h ▸ Tick) k =
    all-append (HasOneKey fields) (outputs_of plan h) (outputs_at plan (h ▸ Tick)) (all_of_one fields plan gives h k)
    (gives.tick h)
all_of_one fields plan gives (h ▸ In (One event)) k =
    all-append (HasOneKey fields) (outputs_of plan h) (outputs_at plan (h ▸ In (One event)))
    (all_of_one fields plan gives h k) (gives.event h event)
all_of_one fields plan gives (h ▸ In (Many es)) k = absurd k

-- ---- the part of a state that is of a key

abbrev with_parts : History → IndexLog → CoreState
with_parts h log = record { history = h; log = log }

module _ (fields : List Field) (within : are_index_fields fields ≡ true) (key : List Value) (plan : StreamTrees)
    (splits : Splits fields key plan) where
  abbrev pub part : CoreState → CoreState
  part state = record { history = of_key fields key state.history; log = log_of_key fields key state.log }

  both_parts : (h g : History) (log more : IndexLog) → h ≡ g → log ≡ more → with_parts h log ≡ with_parts g more
  both_parts h g log more p q = λ i. with_parts (p i) (q i)

  more_log : (log : IndexLog) (os rest : List Output) → filter (output_has fields key) os ≡ rest
      → log_of_key fields key (log ++ writes_among os) ≡ log_of_key fields key log ++ writes_among rest
  more_log log os rest e =
      log-append fields key log (writes_among os)
      ∙ ap (λ l. log_of_key fields key log ++ l) (writes_of_key fields key os ∙ ap writes_among e)

  part-tick : (state : CoreState) → part (entered plan Tick state) ≡ entered plan Tick (part state)
  part-tick state =
      both_parts (of_key fields key state.history ▸ Tick) (of_key fields key state.history ▸ Tick) _ _ refl
      (more_log state.log (outputs_at plan (state.history ▸ Tick))
      (outputs_at plan (of_key fields key state.history ▸ Tick))
      (splits.tick state.history))

  part-own : (state : CoreState) (event : Event) → event_has fields key event ≡ true
      → part (entered plan (In (One event)) state) ≡ entered plan (In (One event)) (part state)
  part-own state event e =
      both_parts (of_key fields key (state.history ▸ In (One event))) (of_key fields key state.history ▸ In (One event))
      _ _
      (ap (λ t. cond t (of_key fields key state.history ▸ In (One event)) (of_key fields key state.history)) e)
      (more_log state.log (outputs_at plan (state.history ▸ In (One event)))
      (outputs_at plan (of_key fields key state.history ▸ In (One event)))
      (splits.own state.history event e))

  part-other : (state : CoreState) (event : Event) → event_has fields key event ≡ false
      → part (entered plan (In (One event)) state) ≡ part state
  part-other state event e =
      both_parts (of_key fields key (state.history ▸ In (One event))) (of_key fields key state.history) _ _
      (ap (λ t. cond t (of_key fields key state.history ▸ In (One event)) (of_key fields key state.history)) e)
      (more_log state.log (outputs_at plan (state.history ▸ In (One event))) [] (splits.other state.history event e)
      ∙ append-nil (log_of_key fields key state.log))

  part-streamed : (es : List Event) (state : CoreState)
      → part (streamed plan es state) ≡ streamed plan (filter (event_has fields key) es) (part state)
  part-streamed [] state = refl
  part-streamed (event ∷ es) state =
      part-streamed es (entered plan (In (One event)) state) ∙ step (event_has fields key event) refl
    where
      step : (t : Bool) → event_has fields key event ≡ t →
          streamed plan (filter (event_has fields key) es) (part (entered plan (In (One event)) state))
          ≡ streamed plan (cond t (event ∷ filter (event_has fields key) es) (filter (event_has fields key) es))
          (part state)
      step true e = ap (streamed plan (filter (event_has fields key) es)) (part-own state event e)
      step false e = ap (streamed plan (filter (event_has fields key) es)) (part-other state event e)

  part-copies : (keep : List KeepKey) (state : CoreState) → list_all (keeps_field keep) fields ≡ true →
      filter (event_has fields key) (expired_copies keep state) ≡ expired_copies keep (part state)
  part-copies keep state kept =
      let now = moment_of state.history in
      let copy = λ (n : ℕ) (event : Event). expired_copy keep event n in
      filter-changed (event_has fields key) (is_expired now) (copy now)
      (λ event. ap (λ (k : List Value). same_key k key) (copy_key fields keep event now within kept))
      (live_events state.log)
      ∙ ap (λ es. map (copy now) (filter (is_expired now) es)) (keys_have_logs fields key state.log within)
      ∙ ap (λ n. map (copy n) (filter (is_expired n) (live_events (log_of_key fields key state.log))))
      (sym (key_moments fields key state.history).ends)

  part-reap : (state : CoreState) → part (with_reap state) ≡ with_reap (part state)
  part-reap state =
      both_parts (of_key fields key state.history) (of_key fields key state.history) _ _ refl
      (log-append fields key state.log (Reap (moment_of state.history) ∷ [])
      ∙ ap (λ n. log_of_key fields key state.log ++ Reap n ∷ []) (sym (key_moments fields key state.history).ends))

  part-fed_back : (keep : List KeepKey) (state : CoreState) → list_all (keeps_field keep) fields ≡ true
      → part (fed_back plan keep state) ≡ fed_back plan keep (part state)
  part-fed_back keep state kept =
      part-streamed (expired_copies keep state) (with_reap state)
      ∙ ap (λ es. streamed plan es (part (with_reap state))) (part-copies keep state kept)
      ∙ ap (streamed plan (expired_copies keep (part state))) (part-reap state)

  part-swept : (expiry : Option Expiry) (state : CoreState) → expiry_keeps fields expiry ≡ true
      → part (swept plan expiry state) ≡ swept plan expiry (part state)
  part-swept None state kept = refl
  part-swept (Some expiry) state kept =
      step ((moment_of state.history - begun state.history) % expiry.interval == 0)
      ∙ ap
      (λ n.
      cond ((n - begun state.history) % expiry.interval == 0) (fed_back plan expiry.keep (part state)) (part state))
      (sym (key_moments fields key state.history).ends)
      ∙ ap
      (λ n. cond ((moment_of (of_key fields key state.history) - n) % expiry.interval == 0)
      (fed_back plan expiry.keep (part state)) (part state))
      (sym (key_moments fields key state.history).begins)
    where
      step : (t : Bool)
          → part (cond t (fed_back plan expiry.keep state) state)
          ≡ cond t (fed_back plan expiry.keep (part state)) (part state)
      step true = part-fed_back expiry.keep state kept
      step false = refl

  part-from : (expiry : Option Expiry) → expiry_keeps fields expiry ≡ true →
      (arrivals : List Arrival) (state : CoreState) →
      part (state_from plan expiry arrivals state)
      ≡ state_from plan expiry (arrivals_of fields key arrivals) (part state)
  part-from expiry kept [] state = refl
  part-from expiry kept (Elapsed ∷ more) state =
      part-from expiry kept more (swept plan expiry (entered plan Tick state))
      ∙ ap (state_from plan expiry (arrivals_of fields key more))
      (part-swept expiry (entered plan Tick state) kept ∙ ap (swept plan expiry) (part-tick state))
  part-from expiry kept (Post event ∷ more) state =
      part-from expiry kept more (entered plan (In (One event)) state) ∙ step (event_has fields key event) refl
    where
      step : (t : Bool) → event_has fields key event ≡ t →
          state_from plan expiry (arrivals_of fields key more) (part (entered plan (In (One event)) state))
          ≡ state_from plan expiry (cond t (Post event ∷ arrivals_of fields key more) (arrivals_of fields key more))
          (part state)
      step true e = ap (state_from plan expiry (arrivals_of fields key more)) (part-own state event e)
      step false e = ap (state_from plan expiry (arrivals_of fields key more)) (part-other state event e)

  -- ---- the laws for this plan

  -- the outputs of a key over a history are those over its own
  own_outputs : (h : History) → IsOneByOne h
      → filter (output_has fields key) (outputs_of plan h) ≡ outputs_of plan (of_key fields key h)
  own_outputs (since start) k = refl
  own_outputs (h ▸ Tick) k =
      filter-append (output_has fields key) (outputs_of plan h) (outputs_at plan (h ▸ Tick))
      ∙ ap (λ l. l ++ outputs_for fields key plan (h ▸ Tick)) (own_outputs h k)
      ∙ ap (λ l. outputs_of plan (of_key fields key h) ++ l) (splits.tick h)
  own_outputs (h ▸ In (One event)) k =
      filter-append (output_has fields key) (outputs_of plan h) (outputs_at plan (h ▸ In (One event)))
      ∙ ap (λ l. l ++ outputs_for fields key plan (h ▸ In (One event))) (own_outputs h k)
      ∙ step (event_has fields key event) refl
    where
      step : (t : Bool) → event_has fields key event ≡ t →
          outputs_of plan (of_key fields key h) ++ outputs_for fields key plan (h ▸ In (One event))
          ≡ outputs_of plan (cond t (of_key fields key h ▸ In (One event)) (of_key fields key h))
      step true e = ap (λ l. outputs_of plan (of_key fields key h) ++ l) (splits.own h event e)
      step false e = ap (λ l. outputs_of plan (of_key fields key h) ++ l) (splits.other h event e) ∙ append-nil _
  own_outputs (h ▸ In (Many es)) k = absurd k

  pub key_state : (expiry : Option Expiry) → expiry_keeps fields expiry ≡ true → (start : ℕ) (arrivals : List Arrival) →
      part (state_after plan expiry start arrivals) ≡ state_after plan expiry start (arrivals_of fields key arrivals)
  key_state expiry kept start arrivals = part-from expiry kept arrivals (record { history = since start; log = [] })

  pub key_notices : (expiry : Option Expiry) → expiry_keeps fields expiry ≡ true →
      (start : ℕ) (arrivals : List Arrival) →
      filter (notice_has fields key) (notices_of plan expiry start arrivals)
      ≡ notices_of plan expiry start (arrivals_of fields key arrivals)
  key_notices expiry kept start arrivals =
      let h = (state_after plan expiry start arrivals).history in
      notices_of_key fields key (outputs_of plan h)
      ∙ ap notices_among
      (own_outputs h (comes_one_by_one plan expiry arrivals (record { history = since start; log = [] }) tt))
      ∙ ap (λ (state : CoreState). notices_among (outputs_of plan state.history)) (key_state expiry kept start arrivals)

  pub key_live : (expiry : Option Expiry) → expiry_keeps fields expiry ≡ true → (start : ℕ) (arrivals : List Arrival) →
      filter (event_has fields key) (live_events (state_after plan expiry start arrivals).log)
      ≡ live_events (state_after plan expiry start (arrivals_of fields key arrivals)).log
  key_live expiry kept start arrivals =
      keys_have_logs fields key (state_after plan expiry start arrivals).log within
      ∙ ap (λ (state : CoreState). live_events state.log) (key_state expiry kept start arrivals)

-- ---- the laws

notices_one : (fields : List Field) (os : List Output) → AllByRecursion (HasOneKey fields) os
    → AllByRecursion (IsOfOneKey fields) (notices_among os)
notices_one fields [] k = tt
notices_one fields (write event ∷ os) k = notices_one fields os k.1
notices_one fields (notice given ∷ os) k =
    (record { key = k.0.key; has = k.0.has; only = k.0.only }, notices_one fields os k.1)

-- the premise, in its parts
record Premise (fields : List Field) (plan : StreamTrees) (expiry : Option Expiry) : Type 0 where
  within : are_index_fields fields ≡ true
  apart : plan_apart fields plan ≡ true
  kept : expiry_keeps fields expiry ≡ true

premise : (fields : List Field) (plan : StreamTrees) (expiry : Option Expiry) → keys_apart fields plan expiry ≡ true
    → Premise fields plan expiry
premise fields plan expiry e =
    let first = both_true (are_index_fields fields) (plan_apart fields plan && expiry_keeps fields expiry) e in
    let more = both_true (plan_apart fields plan) (expiry_keeps fields expiry) first.1 in
    record { within = first.0; apart = more.0; kept = more.1 }

pub keys_have_notices : KeysHaveTheirNotices
keys_have_notices fields plan expiry start arrivals key e =
    let parts = premise fields plan expiry e in
    key_notices fields parts.within key plan (plan_splits fields parts.within key plan parts.apart) expiry parts.kept
    start arrivals

pub keys_have_live : KeysHaveTheirLiveEvents
keys_have_live fields plan expiry start arrivals key e =
    let parts = premise fields plan expiry e in
    key_live fields parts.within key plan (plan_splits fields parts.within key plan parts.apart) expiry parts.kept start
    arrivals

pub notices_of_one : NoticesAreOfOneKey
notices_of_one fields plan expiry start arrivals e =
    let parts = premise fields plan expiry e in
    let h = (state_after plan expiry start arrivals).history in
    notices_one fields (outputs_of plan h)
    (all_of_one fields plan (plan_gives_one fields parts.within plan parts.apart) h
    (comes_one_by_one plan expiry arrivals (record { history = since start; log = [] }) tt))
