-- The events of the last seconds up to the greatest time.
use Rattle.std.proofs.Common.{◌≡◌, ℕ, ◌<◌, ℤ, pos, ◌-ℤ◌, Bool, true, false, cond, List, [], ◌∷◌, ◌++◌, map, filter}
use Rattle.std.proofs.Common.{Some, None, unwrap_or, refl, sym, ap, ◌∙◌, arith}
use Rattle.std.specs.Int.{int_max}
use Rattle.std.specs.Prelude.{int_lt}
use mathlib.Core.Bool.{true≢false}
use Rattle.std.proofs.lemmas.Int.{ints}
use Rattle.std.proofs.lemmas.List.{append-nil}
use Rattle.ev_types.specs.declared.event.Event.{Event}
use Rattle.ev_types.specs.declared.item.Item.TheVariants.{One}
use Rattle.stream_meaning.specs.Came.{events, vector}
use Rattle.stream_meaning.specs.declared.entry.Entry.TheVariants.{Item as In}
use Rattle.stream_meaning.specs.History.{History, ◌▸◌, TicksAlone}
use Rattle.stream_meaning.specs.Windows.{greatest, time_of, latest_time, is_recent, moving_time_items}
use Rattle.window_streams.specs.MovingTime.{MovingTimeRepresents, greatest_time, recent_events}
use Rattle.window_streams.specs.declared.moving_time.MovingTimeState.{MovingTimeState}
use Rattle.window_streams.proofs.EventLaws.{greatest-more, map-more, filter-more}
use Rattle.window_streams.proofs.TickedLaws.{events-ticks}

max-turned : (a b : ℤ) → int_max a b ≡ int_max b a
max-turned a b = grind (arith, ints)

max-joined : (a b c : ℤ) → int_max (int_max a b) c ≡ int_max a (int_max b c)
max-joined a b c = grind (arith, ints)

max-self : (a : ℤ) → int_max a a ≡ a
max-self a = grind (arith, ints)

greatest-first : (a b : ℤ) (cs : List ℤ) → greatest (int_max a b) cs ≡ int_max a (greatest b cs)
greatest-first a b [] = refl
greatest-first a b (c ∷ cs) = ap (λ m. greatest m cs) (max-joined a b c) ∙ greatest-first a (int_max b c) cs

-- what is recent at a later time is recent at an earlier one
recent_before : (secs : ℕ) (a t : ℤ) (other : Event) → is_recent secs (int_max a t) other ≡ true
    → is_recent secs a other ≡ true
recent_before secs a t other h = by_test (int_lt t a) refl h
  where
    by_test : (u : Bool) → int_lt t a ≡ u → int_lt (cond u a t -ℤ pos secs) other.time ≡ true
        → is_recent secs a other ≡ true
    by_test true e k = k
    by_test false e k = grind (arith, ints)

-- an event that is not recent does not have the greatest time
late : (secs : ℕ) (a : ℤ) (event : Event) → 0 < secs → is_recent secs (int_max a event.time) event ≡ false
    → int_max a event.time ≡ a
late secs a event positive h = by_test (int_lt event.time a) refl h
  where
    by_test : (u : Bool) → int_lt event.time a ≡ u → int_lt (cond u a event.time -ℤ pos secs) event.time ≡ false
        → cond u a event.time ≡ a
    by_test true e k = refl
    by_test false e k =
        let lt : int_lt (event.time -ℤ pos secs) event.time ≡ true = grind (arith, ints) in
        absurd (true≢false (sym lt ∙ k))

filter-both : (p q : Event → Bool) (es : List Event) → ((other : Event) → q other ≡ true → p other ≡ true)
    → filter q (filter p es) ≡ filter q es
filter-both p q [] h = refl
filter-both p q (event ∷ es) h = by_tests (p event) (q event) refl refl (filter-both p q es h)
  where
    by_tests : (t u : Bool) → p event ≡ t → q event ≡ u → filter q (filter p es) ≡ filter q es
        → filter q (cond t (event ∷ filter p es) (filter p es)) ≡ cond u (event ∷ filter q es) (filter q es)
    by_tests true u e f ih =
        ap (λ u. cond u (event ∷ filter q (filter p es)) (filter q (filter p es))) f
        ∙ ap (λ rest. cond u (event ∷ rest) rest) ih
    by_tests false true e f ih = absurd (true≢false (sym (h event f) ∙ e))
    by_tests false false e f ih = ih

module _ (secs : ℕ) (event : Event) where
  abbrev entered : ℤ → List Event → List Event
  entered latest recent =
      cond (is_recent secs latest event) (filter (is_recent secs latest) recent ++ event ∷ []) recent

  latest_is : (es : List Event) → int_max (unwrap_or (greatest_time es) event.time) event.time ≡ latest_time es event
  latest_is [] = max-self event.time
  latest_is (first ∷ more) =
      max-turned (greatest first.time (map time_of more)) event.time
      ∙ sym (greatest-first event.time first.time (map time_of more))

  greatest_is : (es : List Event)
      → greatest_time (es ++ event ∷ []) ≡ Some (int_max (unwrap_or (greatest_time es) event.time) event.time)
  greatest_is [] = ap Some (sym (max-self event.time))
  greatest_is (first ∷ more) =
      ap Some
      (ap (greatest first.time) (map-more time_of more event) ∙ greatest-more first.time (map time_of more) event.time)

  -- all events that are recent at the new latest time
  recent_is : (es : List Event) (latest : ℤ) → latest ≡ int_max (unwrap_or (greatest_time es) event.time) event.time →
      filter (is_recent secs latest) (recent_events secs es) ≡ filter (is_recent secs latest) es
  recent_is [] latest e = refl
  recent_is (first ∷ more) latest e =
      let top = greatest first.time (map time_of more) in
      filter-both (is_recent secs top) (is_recent secs latest) (first ∷ more)
      (λ other h. recent_before secs top event.time other (ap (λ z. is_recent secs z other) (sym e) ∙ h))

  recent-more : (es : List Event) (latest : ℤ) → latest ≡ int_max (unwrap_or (greatest_time es) event.time) event.time →
      recent_events secs (es ++ event ∷ []) ≡ filter (is_recent secs latest) (es ++ event ∷ [])
  recent-more [] latest e = ap (λ z. filter (is_recent secs z) (event ∷ [])) (sym (e ∙ max-self event.time))
  recent-more (first ∷ more) latest e =
      ap (λ z. filter (is_recent secs z) ((first ∷ more) ++ event ∷ []))
      (ap (greatest first.time) (map-more time_of more event) ∙ greatest-more first.time (map time_of more) event.time
      ∙ sym e)

  -- a late event leaves the latest time
  kept_at : (es : List Event) (latest : ℤ) → 0 < secs →
      latest ≡ int_max (unwrap_or (greatest_time es) event.time) event.time → is_recent secs latest event ≡ false →
      recent_events secs es ≡ filter (is_recent secs latest) es
  kept_at [] latest positive e h = refl
  kept_at (first ∷ more) latest positive e h =
      let top = greatest first.time (map time_of more) in
      ap (λ z. filter (is_recent secs z) (first ∷ more))
      (sym (e ∙ late secs top event positive (ap (λ z. is_recent secs z event) (sym e) ∙ h)))

  entered_is : (es : List Event) (latest : ℤ) → 0 < secs
      → latest ≡ int_max (unwrap_or (greatest_time es) event.time) event.time
      → entered latest (recent_events secs es) ≡ recent_events secs (es ++ event ∷ [])
  entered_is es latest positive e =
      by_test (is_recent secs latest event) refl
      ∙ sym (recent-more es latest e ∙ filter-more (is_recent secs latest) es event)
    where
      by_test : (t : Bool) → is_recent secs latest event ≡ t
          → cond t (filter (is_recent secs latest) (recent_events secs es) ++ event ∷ []) (recent_events secs es)
          ≡ filter (is_recent secs latest) es ++ cond t (event ∷ []) []
      by_test true h = ap (λ kept. kept ++ event ∷ []) (recent_is es latest e)
      by_test false h = kept_at es latest positive e h ∙ sym (append-nil (filter (is_recent secs latest) es))

-- what is passed on at an event
pub moving_time-emits : (state : MovingTimeState) (event : Event) (h : History) (latest : ℤ) →
    MovingTimeRepresents state h → latest ≡ int_max (unwrap_or state.latest event.time) event.time →
    cond (is_recent state.secs latest event) (vector (filter (is_recent state.secs latest) state.recent ++ event ∷ []))
    []
    ≡ moving_time_items state.secs (h ▸ In (One event))
moving_time-emits state event h latest represents e =
    let es = events h in
    let own : latest ≡ int_max (unwrap_or (greatest_time es) event.time) event.time =
    e ∙ ap (λ o. int_max (unwrap_or o event.time) event.time) represents.latest in
    by_test (is_recent state.secs latest event) refl
    (ap (λ kept. filter (is_recent state.secs latest) kept ++ event ∷ []) represents.recent
    ∙ ap (λ kept. kept ++ event ∷ []) (recent_is state.secs event es latest own))
    ∙ ap (λ z. cond (is_recent state.secs z event) (vector (filter (is_recent state.secs z) (es ++ event ∷ []))) [])
    (own ∙ latest_is state.secs event es)
  where
    by_test : (t : Bool) → is_recent state.secs latest event ≡ t →
        filter (is_recent state.secs latest) state.recent ++ event ∷ []
        ≡ filter (is_recent state.secs latest) (events h) ++ event ∷ [] →
        cond t (vector (filter (is_recent state.secs latest) state.recent ++ event ∷ [])) []
        ≡ cond t (vector (filter (is_recent state.secs latest) (events h ++ event ∷ []))) []
    by_test true t e =
        ap vector (e
        ∙ sym (filter-more (is_recent state.secs latest) (events h) event
        ∙ ap (λ t. filter (is_recent state.secs latest) (events h) ++ cond t (event ∷ []) []) t))
    by_test false t e = refl

pub moving_time-represents : (old new : MovingTimeState) (event : Event) (h : History) (latest : ℤ) →
    MovingTimeRepresents old h → 0 < old.secs → latest ≡ int_max (unwrap_or old.latest event.time) event.time →
    new.secs ≡ old.secs → new.poisoned ≡ false → new.latest ≡ Some latest →
    new.recent
    ≡ cond (is_recent old.secs latest event) (filter (is_recent old.secs latest) old.recent ++ event ∷ []) old.recent →
    MovingTimeRepresents new (h ▸ In (One event))
moving_time-represents old new event h latest represents positive e secs sound newest recent =
    let es = events h in
    let own : latest ≡ int_max (unwrap_or (greatest_time es) event.time) event.time =
    e ∙ ap (λ o. int_max (unwrap_or o event.time) event.time) represents.latest in
    record {
      sound = sound;
      latest = newest ∙ ap Some own ∙ sym (greatest_is old.secs event es);
      recent =
          recent
          ∙ ap
          (λ kept. cond (is_recent old.secs latest event) (filter (is_recent old.secs latest) kept ++ event ∷ []) kept)
          represents.recent
          ∙ entered_is old.secs event es latest positive own ∙ ap (λ n. recent_events n (es ++ event ∷ [])) (sym secs);
    }

pub moving_time-fresh : (state : MovingTimeState) (h : History) → TicksAlone h → state.poisoned ≡ false
    → state.latest ≡ None → state.recent ≡ [] → MovingTimeRepresents state h
moving_time-fresh state h alone sound latest recent = record {
  sound = sound;
  latest = latest ∙ sym (ap greatest_time (events-ticks h alone));
  recent = recent ∙ sym (ap (recent_events state.secs) (events-ticks h alone));
}
