-- What a `by` that has the fields of a key does for this key, also if its forks end.
use Rattle.std.proofs.Common.{◌≡◌, ℕ, Bool, true, false, not, cond, List, [], ◌∷◌, ◌++◌, map, Option, refl, sym, ap}
use Rattle.std.proofs.Common.{◌∙◌, subst}
use Rattle.std.specs.List.{AllByRecursion, filter, flat_map, list_any}
use Rattle.std.proofs.lemmas.List.{append-nil}
use Rattle.std.proofs.lemmas.List.Elements.{filter-append}
use Rattle.ev_types.specs.declared.event.Event.{Event}
use Rattle.ev_types.specs.declared.field.Field.{Field}
use Rattle.ev_types.specs.declared.item.Item.TheVariants.{One, Many}
use Rattle.ev_types.specs.declared.item.Output.{Output}
use Rattle.ev_types.specs.declared.value.Value.{Value}
use Rattle.ev_types.specs.Key.{same_key, event_key}
use Rattle.index_log.specs.OfKey.{are_index_fields, event_has}
use Rattle.stream_plan.specs.Tree.{By, StreamTrees, stream, none, also}
use Rattle.stream_meaning.specs.declared.entry.Entry.TheVariants.{Tick, Item as In}
use Rattle.stream_meaning.specs.History.{History, since, ◌▸◌}
use Rattle.stream_meaning.specs.Ends.{ends_next, KeyFork, same_fork, fork_of, with_fork, live_forks}
use Rattle.stream_meaning.specs.Emission.{Fork}
use Rattle.stream_meaning.specs.Branches.{child_history, fork_history}
use Rattle.stream_meaning.specs.Outputs.{outputs_at}
use Rattle.stream_meaning.specs.Keys.{output_has, plan_keeps}
use Rattle.stream_meaning.specs.KeyLaws.{outputs_for, HasOneKey}
use Rattle.stream_meaning.specs.Laws.{below, of_key, of_fork}
use Rattle.stream_meaning.proofs.ForkLaws.{fork_events}
use Rattle.stream_meaning.proofs.EndLaws.{fork_is}
use Rattle.stream_meaning.proofs.KeyEndLaws.{ends_same, target_same, history_same}
use Rattle.stream_meaning.proofs.KeptEvents.{all-append, all-weaker, HistoryAll, OutputAll, outputs_kept}
use Rattle.stream_meaning.proofs.KeyLaws.{plan_leaves, output_one, outputs_all, outputs_none}
use Rattle.stream_meaning.proofs.LiveLaws.{filter_same, filter_flip, live_at_tick, live_at_event, with_live}
use Rattle.stream_meaning.proofs.OutputLaws.{outputs_said}
use Rattle.key_laws.specs.Apart.{has_all}
use Rattle.key_laws.proofs.KeyValues.{IsOf, key_is, key_same, of_is_kept, part_of, part_is}

-- what a plan gives for a key is what it gives of the events of the key
pub record Splits (fields : List Field) (key : List Value) (plan : StreamTrees) : Type 0 where
  pub tick : (h : History) → outputs_for fields key plan (h ▸ Tick) ≡ outputs_at plan (of_key fields key h ▸ Tick)
  pub own : (h : History) (event : Event) → event_has fields key event ≡ true →
      outputs_for fields key plan (h ▸ In (One event)) ≡ outputs_at plan (of_key fields key h ▸ In (One event))
  pub other : (h : History) (event : Event) → event_has fields key event ≡ false
      → outputs_for fields key plan (h ▸ In (One event)) ≡ []

-- each output at a tick and at an event is of one key
pub record GivesOne (fields : List Field) (plan : StreamTrees) : Type 0 where
  pub tick : (h : History) → AllByRecursion (HasOneKey fields) (outputs_at plan (h ▸ Tick))
  pub event : (h : History) (event : Event) → AllByRecursion (HasOneKey fields) (outputs_at plan (h ▸ In (One event)))

module _ (idle : Option ℕ) (fields others : List Field) (within : are_index_fields fields ≡ true)
    (split : has_all fields others ≡ true) (children otherwise : StreamTrees)
    (keep : plan_keeps fields children ≡ true) where
  abbrev plan : StreamTrees
  plan = also (stream (By others idle) children otherwise) none

  -- the part of a fork's key that is the key
  abbrev part : KeyFork → List Value
  part fork = part_of others fields fork.key

  -- what a fork gives at a tick
  abbrev ticking : History → KeyFork → List Output
  ticking h fork = outputs_at children (fork_history idle others fork h ▸ Tick)

  abbrev all_ticking : History → List KeyFork → List Output
  all_ticking h forks =
      flat_map (λ branch. outputs_at (below children otherwise branch) (child_history (By others idle) branch h ▸ Tick))
      (map Fork forks)

  at_tick : (h : History) → outputs_at plan (h ▸ Tick) ≡ all_ticking h (live_forks idle others h)
  at_tick h = outputs_said (By others idle) children otherwise h Tick ∙ append-nil _

  at_event : (h : History) (event : Event)
      → outputs_at plan (h ▸ In (One event))
      ≡ outputs_at children (fork_history idle others (fork_of idle others event h) h ▸ In (One event))
  at_event h event = outputs_said (By others idle) children otherwise h (In (One event)) ∙ append-nil _

  -- ---- what is in a fork is of one key

  key_part : (fork : KeyFork) (event : Event) → same_key (event_key event others) fork.key ≡ true
      → event_key event fields ≡ part fork
  key_part fork event e =
      sym (part_is others fields split event) ∙ ap (part_of others fields) (key_is (event_key event others) fork.key e)

  own_all : (fork : KeyFork) (h : History) → HistoryAll (IsOf fields (part fork)) (of_fork idle others fork h)
  own_all fork (since start) = tt
  own_all fork (h ▸ Tick) = own_all fork h
  own_all fork (h ▸ In (One event)) = step (same_fork (fork_of idle others event h) fork) refl (own_all fork h)
    where
      step : (t : Bool) → same_fork (fork_of idle others event h) fork ≡ t →
          HistoryAll (IsOf fields (part fork)) (of_fork idle others fork h) →
          HistoryAll (IsOf fields (part fork))
          (cond t (of_fork idle others fork h ▸ In (One event)) (of_fork idle others fork h))
      step true e k =
          let is = fork_is (fork_of idle others event h) fork e in
          (k, sym (part_is others fields split event) ∙ ap part is)
      step false e k = k
  own_all fork (h ▸ In (Many es)) = own_all fork h

  fork_all : (fork : KeyFork) (h : History) → HistoryAll (IsOf fields (part fork)) (fork_history idle others fork h)
  fork_all fork h = subst (HistoryAll (IsOf fields (part fork))) (sym (fork_events idle others fork h)) (own_all fork h)

  ticking_all : (h : History) (fork : KeyFork) → AllByRecursion (OutputAll (IsOf fields (part fork))) (ticking h fork)
  ticking_all h fork =
      outputs_kept (IsOf fields (part fork)) (of_is_kept fields within (part fork)) children
      (plan_leaves fields within (part fork) children keep) (fork_history idle others fork h ▸ Tick) (fork_all fork h)

  event_all : (h : History) (event : Event)
      → AllByRecursion (OutputAll (IsOf fields (event_key event fields))) (outputs_at plan (h ▸ In (One event)))
  event_all h event =
      let fork = fork_of idle others event h in
      let same = part_is others fields split event in
      subst (λ (key : List Value). AllByRecursion (OutputAll (IsOf fields key)) (outputs_at plan (h ▸ In (One event))))
      same
      (subst (AllByRecursion (OutputAll (IsOf fields (part fork)))) (sym (at_event h event))
      (outputs_kept (IsOf fields (part fork)) (of_is_kept fields within (part fork)) children
      (plan_leaves fields within (part fork) children keep) (fork_history idle others fork h ▸ In (One event))
      (fork_all fork h, sym same)))

  -- ---- each output has one key

  has_key : (key : List Value) (o : Output) → OutputAll (IsOf fields key) o → output_has fields key o ≡ true
  has_key key o k = step (output_has fields key o) (outputs_all fields within key (o ∷ []) (k, tt))
    where
      step : (t : Bool) → cond t (o ∷ []) [] ≡ o ∷ [] → t ≡ true
      step true e = refl
      step false e = absurd (cc e)

  one_key : (key : List Value) (o : Output) → OutputAll (IsOf fields key) o → HasOneKey fields o
  one_key key o k =
      record { key = key; has = has_key key o k; only = λ other has. output_one fields within key other o k has }

  all_one : (key : List Value) (os : List Output) → AllByRecursion (OutputAll (IsOf fields key)) os
      → AllByRecursion (HasOneKey fields) os
  all_one key os k = all-weaker (OutputAll (IsOf fields key)) (HasOneKey fields) (one_key key) os k

  one_of_forks : (h : History) (forks : List KeyFork) → AllByRecursion (HasOneKey fields) (all_ticking h forks)
  one_of_forks h [] = tt
  one_of_forks h (fork ∷ forks) =
      all-append (HasOneKey fields) (ticking h fork) _ (all_one (part fork) (ticking h fork) (ticking_all h fork))
      (one_of_forks h forks)

  pub by_gives_one : GivesOne fields plan
  by_gives_one = record {
    tick = λ h. subst (AllByRecursion (HasOneKey fields)) (sym (at_tick h)) (one_of_forks h (live_forks idle others h));
    event = λ h event. all_one (event_key event fields) (outputs_at plan (h ▸ In (One event))) (event_all h event);
  }

  -- ---- the forks of a key

  module _ (key : List Value) where
    abbrev is_part : KeyFork → Bool
    is_part fork = same_key (part fork) key

    of_forks : (h : History) (forks : List KeyFork)
        → filter (output_has fields key) (all_ticking h forks) ≡ all_ticking h (filter is_part forks)
    of_forks h [] = refl
    of_forks h (fork ∷ forks) =
        filter-append (output_has fields key) (ticking h fork) _
        ∙ ap (λ l. filter (output_has fields key) (ticking h fork) ++ l) (of_forks h forks)
        ∙ step (is_part fork) refl
      where
        step : (t : Bool) → is_part fork ≡ t →
            filter (output_has fields key) (ticking h fork) ++ all_ticking h (filter is_part forks)
            ≡ all_ticking h (cond t (fork ∷ filter is_part forks) (filter is_part forks))
        step true e =
            ap (λ l. l ++ all_ticking h (filter is_part forks))
            (outputs_all fields within key (ticking h fork)
            (subst (λ (k : List Value). AllByRecursion (OutputAll (IsOf fields k)) (ticking h fork))
            (key_is (part fork) key e) (ticking_all h fork)))
        step false e =
            ap (λ l. l ++ all_ticking h (filter is_part forks))
            (outputs_none fields within (part fork) key (ticking h fork) e (ticking_all h fork))

    -- the events of a fork of the key are of the key
    of_part : (fork : KeyFork) → part fork ≡ key → (event : Event) → same_key (event_key event others) fork.key ≡ true
        → event_has fields key event ≡ true
    of_part fork is event e = key_same (event_key event fields) key (key_part fork event e ∙ is)

    same_forks : (h : History) (forks : List KeyFork)
        → all_ticking h (filter is_part forks) ≡ all_ticking (of_key fields key h) (filter is_part forks)
    same_forks h [] = refl
    same_forks h (fork ∷ forks) = step (is_part fork) refl (same_forks h forks)
      where
        step : (t : Bool) → is_part fork ≡ t →
            all_ticking h (filter is_part forks) ≡ all_ticking (of_key fields key h) (filter is_part forks) →
            all_ticking h (cond t (fork ∷ filter is_part forks) (filter is_part forks))
            ≡ all_ticking (of_key fields key h) (cond t (fork ∷ filter is_part forks) (filter is_part forks))
        step true e ih =
            ap (λ g. outputs_at children (g ▸ Tick) ++ all_ticking h (filter is_part forks))
            (sym (history_same idle fields others key fork (of_part fork (key_is (part fork) key e)) h))
            ∙ ap (λ l. ticking (of_key fields key h) fork ++ l) ih
        step false e ih = ih

    -- ---- which forks there are of the key

    with_other : (fork : KeyFork) → is_part fork ≡ false → (forks : List KeyFork)
        → filter is_part forks ≡ filter is_part (with_fork fork forks)
    with_other fork other forks = step (list_any (λ (one : KeyFork). same_fork one fork) forks)
      where
        step : (t : Bool) → filter is_part forks ≡ filter is_part (cond t forks (forks ++ fork ∷ []))
        step true = refl
        step false =
            sym (filter-append is_part forks (fork ∷ []) ∙ ap (λ t. filter is_part forks ++ cond t (fork ∷ []) []) other
            ∙ append-nil (filter is_part forks))

    -- those that a tick leaves are the same
    left_same : (h : History) (forks : List KeyFork) →
        AllByRecursion
        (λ (fork : KeyFork).
        not (ends_next idle others fork.key (of_key fields key h)) ≡ not (ends_next idle others fork.key h))
        (filter is_part forks)
    left_same h [] = tt
    left_same h (fork ∷ forks) = step (is_part fork) refl (left_same h forks)
      where
        step : (t : Bool) → is_part fork ≡ t →
            AllByRecursion
            (λ (fork : KeyFork).
            not (ends_next idle others fork.key (of_key fields key h)) ≡ not (ends_next idle others fork.key h))
            (filter is_part forks) →
            AllByRecursion
            (λ (fork : KeyFork).
            not (ends_next idle others fork.key (of_key fields key h)) ≡ not (ends_next idle others fork.key h))
            (cond t (fork ∷ filter is_part forks) (filter is_part forks))
        step true e rest =
            (ap not (ends_same idle fields others key fork (of_part fork (key_is (part fork) key e)) h), rest)
        step false e rest = rest

    forks_of_key : (h : History)
        → live_forks idle others (of_key fields key h) ≡ filter is_part (live_forks idle others h)
    forks_of_key (since start) = refl
    forks_of_key (h ▸ Tick) =
        let goes_on = λ (fork : KeyFork). not (ends_next idle others fork.key h) in
        let went_on = λ (fork : KeyFork). not (ends_next idle others fork.key (of_key fields key h)) in
        live_at_tick idle others (of_key fields key h)
        ∙ ap (filter went_on) (forks_of_key h)
        ∙ filter_same went_on goes_on (filter is_part (live_forks idle others h))
        (left_same h (live_forks idle others h))
        ∙ filter_flip goes_on is_part (live_forks idle others h)
        ∙ ap (filter is_part) (sym (live_at_tick idle others h))
    forks_of_key (h ▸ In (One event)) = step (event_has fields key event) refl (forks_of_key h)
      where
        same : is_part (fork_of idle others event h) ≡ event_has fields key event
        same = ap (λ (k : List Value). same_key k key) (part_is others fields split event)

        step : (t : Bool) → event_has fields key event ≡ t →
            live_forks idle others (of_key fields key h) ≡ filter is_part (live_forks idle others h) →
            live_forks idle others (cond t (of_key fields key h ▸ In (One event)) (of_key fields key h))
            ≡ filter is_part (live_forks idle others (h ▸ In (One event)))
        step true e ih =
            let fork = fork_of idle others event h in
            let own = key_is (part fork) key (same ∙ e) in
            live_at_event idle others (of_key fields key h) event
            ∙ ap (with_fork (fork_of idle others event (of_key fields key h))) ih
            ∙ ap (λ (k : KeyFork). with_fork k (filter is_part (live_forks idle others h)))
            (target_same idle fields others key fork (of_part fork own) event h
            (key_same (event_key event others) fork.key refl))
            ∙ sym (with_live is_part fork (live_forks idle others h) (same ∙ e))
            ∙ ap (filter is_part) (sym (live_at_event idle others h event))
        step false e ih =
            ih ∙ with_other (fork_of idle others event h) (same ∙ e) (live_forks idle others h)
            ∙ ap (filter is_part) (sym (live_at_event idle others h event))
    forks_of_key (h ▸ In (Many es)) = forks_of_key h

    -- ---- what the plan gives for the key

    tick_split : (h : History) → outputs_for fields key plan (h ▸ Tick) ≡ outputs_at plan (of_key fields key h ▸ Tick)
    tick_split h =
        ap (filter (output_has fields key)) (at_tick h) ∙ of_forks h (live_forks idle others h)
        ∙ same_forks h (live_forks idle others h)
        ∙ ap (all_ticking (of_key fields key h)) (sym (forks_of_key h)) ∙ sym (at_tick (of_key fields key h))

    own_split : (h : History) (event : Event) → event_has fields key event ≡ true
        → outputs_for fields key plan (h ▸ In (One event)) ≡ outputs_at plan (of_key fields key h ▸ In (One event))
    own_split h event e =
        let same = key_is (event_key event fields) key e in
        let fork = fork_of idle others event h in
        let own = part_is others fields split event ∙ same in
        let target =
        target_same idle fields others key fork (of_part fork own) event h
        (key_same (event_key event others) fork.key refl) in
        outputs_all fields within key (outputs_at plan (h ▸ In (One event)))
        (subst (λ (k : List Value). AllByRecursion (OutputAll (IsOf fields k)) (outputs_at plan (h ▸ In (One event))))
        same (event_all h event))
        ∙ at_event h event
        ∙ ap (λ g. outputs_at children (g ▸ In (One event)))
        (sym (history_same idle fields others key fork (of_part fork own) h))
        ∙ ap (λ (k : KeyFork). outputs_at children (fork_history idle others k (of_key fields key h) ▸ In (One event)))
        (sym target)
        ∙ sym (at_event (of_key fields key h) event)

    pub by_splits : Splits fields key plan
    by_splits = record {
      tick = tick_split;
      own = own_split;
      other =
          λ h event e. outputs_none fields within (event_key event fields) key (outputs_at plan (h ▸ In (One event))) e
          (event_all h event);
    }
