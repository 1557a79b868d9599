-- What one `by` on host and service does for each key.
use Rattle.std.proofs.Common.{◌≡◌, ℕ, Bool, true, false, not, ◌||◌, ◌&&◌, cond, List, [], ◌∷◌, ◌++◌, map, Option, refl}
use Rattle.std.proofs.Common.{sym, ap, ◌∙◌, subst}
use mathlib.Core.Bool.{true≢false}
use Rattle.std.specs.List.{AllByRecursion, IsDistinct, filter, flat_map, list_any, list_all}
use Rattle.std.proofs.lemmas.List.{append-nil}
use Rattle.std.proofs.lemmas.List.Elements.{filter-append}
use Rattle.ev_types.specs.declared.event.Event.{Event}
use Rattle.ev_types.specs.declared.field.Field.{Field}
use Rattle.ev_types.specs.declared.field.Field.TheVariants.{Host, Service, State, Description, Time, Ttl, Metric}
use Rattle.ev_types.specs.declared.field.Field.TheVariants.{Attribute}
use Rattle.ev_types.specs.declared.item.Item.{Item}
use Rattle.ev_types.specs.declared.item.Item.TheVariants.{One, Many}
use Rattle.ev_types.specs.declared.item.Output.{Output}
use Rattle.ev_types.specs.declared.item.Output.TheVariants.{Notice as notice, Write as write}
use Rattle.ev_types.specs.declared.settings.Set.{Set}
use Rattle.ev_types.specs.declared.value.Value.{Value}
use Rattle.ev_types.specs.declared.value.Value.TheVariants.{Nil}
use Rattle.ev_types.specs.Field.{text_value, field_value}
use Rattle.ev_types.specs.Value.{same_value}
use Rattle.ev_types.specs.Key.{same_key, event_key}
use Rattle.ev_types.specs.Set.{fits, with_fitting, with_set, has_text, with_tag}
use Rattle.index_log.specs.OfKey.{are_index_fields, event_has}
use Rattle.index_log.proofs.OfKeyLaws.{both_true, same_values}
use Rattle.stream_plan.specs.Tree.{KindTree, Index, With, Default, By, StreamTree, StreamTrees, stream, none, also}
use Rattle.stream_meaning.specs.History.{History, since, ◌▸◌, Tick, In}
use Rattle.stream_meaning.specs.Ends.{times_ended, KeyFork, same_fork, key_of_fork, fork_at, fork_of, live_forks}
use Rattle.stream_meaning.specs.Ends.{live_keys}
use Rattle.stream_meaning.specs.Images.{with_sets, with_default, with_defaults, with_metric}
use Rattle.stream_meaning.specs.Emission.{Fork}
use Rattle.stream_meaning.specs.Branches.{child_history, fork_history}
use Rattle.stream_meaning.specs.Outputs.{outputs_among, outputs_at, outputs_of}
use Rattle.stream_meaning.specs.Keys.{item_has, output_has, same_index_field, sets_one, kind_keeps, stream_keeps}
use Rattle.stream_meaning.specs.Keys.{plan_keeps}
use Rattle.stream_meaning.specs.KeyLaws.{one_by, keeps_keys, outputs_for, ActsByForks, KeysActByForks}
use Rattle.stream_meaning.specs.KeyLaws.{KeysHaveTheirOutputs, HasOneKey, OutputsHaveOneKey}
use Rattle.stream_meaning.specs.Laws.{below, of_key, of_fork, is_among}
use Rattle.stream_meaning.proofs.ForkLaws.{fork_events}
use Rattle.stream_meaning.proofs.KeyEndLaws.{other_key, times_same, history_same}
use Rattle.stream_meaning.proofs.EndLaws.{key_is, key_same, the_fork, fork_is, unseen_forks_have_ticks}
use Rattle.stream_meaning.proofs.LiveLaws.{live_keys_are_apart, live_forks_are_the_latest, not_come}
use Rattle.stream_meaning.proofs.KeptEvents.{all-append, all-weaker, ItemAll, HistoryAll, OutputAll, Leaves}
use Rattle.stream_meaning.proofs.KeptEvents.{StreamLeaves, PlanLeaves, IsKept, outputs_kept}
use Rattle.stream_meaning.proofs.OutputLaws.{outputs_said}
use Rattle.stream_meaning.proofs.TickLaws.{plan_quiet}

-- ---- tests

not_false : (t : Bool) → not t ≡ true → t ≡ false
not_false false e = refl
not_false true e = absurd (true≢false (sym e))

neither : (s t : Bool) → s || t ≡ false → (s ≡ false) × (t ≡ false)
neither true t e = absurd (true≢false e)
neither false t e = (refl, e)

both : (s t : Bool) → s ≡ true → t ≡ true → s && t ≡ true
both s t e f = ap (λ r. r && t) e ∙ f

-- ---- filters

filter_one : (p : Output → Bool) (t : Bool) (o : Output) (os rest : List Output) → p o ≡ t → filter p os ≡ rest
    → filter p (o ∷ os) ≡ cond t (o ∷ rest) rest
filter_one p t o os rest e ih = ap (λ t. cond t (o ∷ filter p os) (filter p os)) e ∙ ap (λ l. cond t (o ∷ l) l) ih

filter_all : (p : Output → Bool) (os : List Output) → AllByRecursion (λ o. p o ≡ true) os → filter p os ≡ os
filter_all p [] k = refl
filter_all p (o ∷ os) k = filter_one p true o os os k.0 (filter_all p os k.1)

filter_none : (p : Output → Bool) (os : List Output) → AllByRecursion (λ o. p o ≡ false) os → filter p os ≡ []
filter_none p [] k = refl
filter_none p (o ∷ os) k = filter_one p false o os [] k.0 (filter_none p os k.1)

-- ---- what a set changes

fitting_host : (field : Field) (value : Value) (event : Event) → same_index_field field Host ≡ false
    → (with_fitting event field value).host ≡ event.host
fitting_host Host value event e = absurd (true≢false e)
fitting_host Service value event e = refl
fitting_host State value event e = refl
fitting_host Description value event e = refl
fitting_host Time value event e = refl
fitting_host Ttl value event e = refl
fitting_host Metric value event e = refl
fitting_host (Attribute name) value event e = refl

fitting_service : (field : Field) (value : Value) (event : Event) → same_index_field field Service ≡ false
    → (with_fitting event field value).service ≡ event.service
fitting_service Host value event e = refl
fitting_service Service value event e = absurd (true≢false e)
fitting_service State value event e = refl
fitting_service Description value event e = refl
fitting_service Time value event e = refl
fitting_service Ttl value event e = refl
fitting_service Metric value event e = refl
fitting_service (Attribute name) value event e = refl

-- of an event or another, both of which hold the same in some field
either_same : {A : Type 0} (of : Event → A) (t : Bool) (a b : Event) → of a ≡ of b → of (cond t a b) ≡ of b
either_same of true a b e = e
either_same of false a b e = refl

set_kept : (fields : List Field) (field : Field) (value : Value) (event : Event) → are_index_fields fields ≡ true →
    list_any (same_index_field field) fields ≡ false →
    event_key (with_set event field value) fields ≡ event_key event fields
set_kept [] field value event within e = refl
set_kept (Host ∷ fields) field value event within e =
    let parts = neither (same_index_field field Host) (list_any (same_index_field field) fields) e in
    ap (λ (k : Value). k ∷ event_key (with_set event field value) fields)
    (either_same (λ (a : Event). text_value a.host) (fits field value) (with_fitting event field value) event
    (ap text_value (fitting_host field value event parts.0)))
    ∙ ap (λ (k : List Value). text_value event.host ∷ k) (set_kept fields field value event within parts.1)
set_kept (Service ∷ fields) field value event within e =
    let parts = neither (same_index_field field Service) (list_any (same_index_field field) fields) e in
    ap (λ (k : Value). k ∷ event_key (with_set event field value) fields)
    (either_same (λ (a : Event). text_value a.service) (fits field value) (with_fitting event field value) event
    (ap text_value (fitting_service field value event parts.0)))
    ∙ ap (λ (k : List Value). text_value event.service ∷ k) (set_kept fields field value event within parts.1)
set_kept (State ∷ fields) field value event within e = absurd (true≢false (sym within))
set_kept (Description ∷ fields) field value event within e = absurd (true≢false (sym within))
set_kept (Time ∷ fields) field value event within e = absurd (true≢false (sym within))
set_kept (Ttl ∷ fields) field value event within e = absurd (true≢false (sym within))
set_kept (Metric ∷ fields) field value event within e = absurd (true≢false (sym within))
set_kept (Attribute name ∷ fields) field value event within e = absurd (true≢false (sym within))

module _ (fields : List Field) (within : are_index_fields fields ≡ true) where
  -- the event is of the key
  abbrev pub Of : List Value → Event → Type 0
  Of key event = event_key event fields ≡ key

  sets_kept : (sets : List Set) (event : Event) → sets_one fields sets ≡ false
      → event_key (with_sets sets event) fields ≡ event_key event fields
  sets_kept [] event e = refl
  sets_kept (set ∷ sets) event e =
      let parts = neither (list_any (same_index_field set.field) fields) (sets_one fields sets) e in
      sets_kept sets (with_set event set.field set.value) parts.1
      ∙ set_kept fields set.field set.value event within parts.0

  defaults_kept : (sets : List Set) (event : Event) → sets_one fields sets ≡ false
      → event_key (with_defaults sets event) fields ≡ event_key event fields
  defaults_kept [] event e = refl
  defaults_kept (set ∷ sets) event e =
      let parts = neither (list_any (same_index_field set.field) fields) (sets_one fields sets) e in
      defaults_kept sets (with_default event set) parts.1
      ∙ either_same (λ (a : Event). event_key a fields) (same_value (field_value event set.field) Nil)
      (with_set event set.field set.value) event (set_kept fields set.field set.value event within parts.0)

  tag_kept : (event : Event) (tag : List ℕ) → event_key (with_tag event tag) fields ≡ event_key event fields
  tag_kept event tag =
      let longer : Event = record event { tags = event.tags ++ tag ∷ [] } in
      same_values fields (with_tag event tag) event within
      (tagged (λ (a : Event). a.host) (has_text tag event.tags) event longer refl)
      (tagged (λ (a : Event). a.service) (has_text tag event.tags) event longer refl)
    where
      tagged : {A : Type 0} (of : Event → A) (t : Bool) (a b : Event) → of b ≡ of a → of (cond t a b) ≡ of a
      tagged of true a b e = refl
      tagged of false a b e = e

  is_kept : (key : List Value) → IsKept (Of key)
  is_kept key = record {
    metric = λ number event k. same_values fields (with_metric number event) event within refl refl ∙ k;
    tag = λ event tag k. tag_kept event tag ∙ k;
  }

  kind_leaves : (key : List Value) (kind : KindTree) → kind_keeps fields kind ≡ true → Leaves (Of key) kind
  kind_leaves key (With sets) e = λ event k. sets_kept sets event (not_false (sets_one fields sets) e) ∙ k
  kind_leaves key (Default sets) e = λ event k. defaults_kept sets event (not_false (sets_one fields sets) e) ∙ k
  kind_leaves key Index e = tt
  kind_leaves key kind e = tt

  mutual
    stream_leaves : (key : List Value) (s : StreamTree) → stream_keeps fields s ≡ true → StreamLeaves (Of key) s
    stream_leaves key (stream kind children otherwise) e =
        let parts = both_true (kind_keeps fields kind) (plan_keeps fields children && plan_keeps fields otherwise) e in
        let below = both_true (plan_keeps fields children) (plan_keeps fields otherwise) parts.1 in
        (kind_leaves key kind parts.0, plan_leaves key children below.0, plan_leaves key otherwise below.1)

    pub plan_leaves : (key : List Value) (plan : StreamTrees) → plan_keeps fields plan ≡ true → PlanLeaves (Of key) plan
    plan_leaves key none e = tt
    plan_leaves key (also first more) e =
        let parts = both_true (stream_keeps fields first) (plan_keeps fields more) e in
        (stream_leaves key first parts.0, plan_leaves key more parts.1)

  -- ---- the key of an output

  event_test : (key : List Value) (event : Event) → Of key event → event_has fields key event ≡ true
  event_test key event e = key_same (event_key event fields) key e

  all_test : (key : List Value) (es : List Event) → AllByRecursion (Of key) es
      → list_all (event_has fields key) es ≡ true
  all_test key [] k = refl
  all_test key (event ∷ es) k =
      both (event_has fields key event) (list_all (event_has fields key) es) (event_test key event k.0)
      (all_test key es k.1)

  item_test : (key : List Value) (item : Item) → ItemAll (Of key) item → item_has fields key item ≡ true
  item_test key (One event) k = event_test key event k
  item_test key (Many []) k = absurd k
  item_test key (Many (event ∷ es)) k =
      both (event_has fields key event) (list_all (event_has fields key) es) (event_test key event k.0)
      (all_test key es k.1)

  output_test : (key : List Value) (o : Output) → OutputAll (Of key) o → output_has fields key o ≡ true
  output_test key (notice given) k = item_test key given.item k
  output_test key (write event) k = event_test key event k

  -- an event of one key has no other
  event_one : (key other : List Value) (event : Event) → Of key event → event_has fields other event ≡ true
      → other ≡ key
  event_one key other event e has = sym (key_is (event_key event fields) other has) ∙ e

  pub output_one : (key other : List Value) (o : Output) → OutputAll (Of key) o → output_has fields other o ≡ true
      → other ≡ key
  output_one key other (write event) k has = event_one key other event k has
  output_one key other (notice given) k has = item_one given.item k has
    where
      item_one : (item : Item) → ItemAll (Of key) item → item_has fields other item ≡ true → other ≡ key
      item_one (One event) k has = event_one key other event k has
      item_one (Many []) k has = absurd k
      item_one (Many (event ∷ es)) k has =
          event_one key other event k.0
          (both_true (event_has fields other event) (list_all (event_has fields other) es) has).0

  other_test : (key other : List Value) (o : Output) → same_key key other ≡ false → OutputAll (Of key) o
      → output_has fields other o ≡ false
  other_test key other o apart k = differs (output_has fields other o) refl
    where
      differs : (t : Bool) → output_has fields other o ≡ t → t ≡ false
      differs false e = refl
      differs true e = absurd (true≢false (sym (key_same key other (sym (output_one key other o k e))) ∙ apart))

  -- what is of one key is all of it, and nothing of another
  pub outputs_all : (key : List Value) (os : List Output) → AllByRecursion (OutputAll (Of key)) os
      → filter (output_has fields key) os ≡ os
  outputs_all key os k =
      filter_all (output_has fields key) os
      (all-weaker (OutputAll (Of key)) (λ o. output_has fields key o ≡ true) (output_test key) os k)

  pub outputs_none : (key other : List Value) (os : List Output) → same_key key other ≡ false
      → AllByRecursion (OutputAll (Of key)) os → filter (output_has fields other) os ≡ []
  outputs_none key other os apart k =
      filter_none (output_has fields other) os
      (all-weaker (OutputAll (Of key)) (λ o. output_has fields other o ≡ false) (λ o. other_test key other o apart) os
      k)

  -- ---- the history of a key

  key_history : (key : List Value) (h : History) → HistoryAll (Of key) (of_key fields key h)
  key_history key (since start) = tt
  key_history key (h ▸ Tick) = key_history key h
  key_history key (h ▸ In (One event)) = step (event_has fields key event) refl (key_history key h)
    where
      step : (t : Bool) → event_has fields key event ≡ t → HistoryAll (Of key) (of_key fields key h)
          → HistoryAll (Of key) (cond t (of_key fields key h ▸ In (One event)) (of_key fields key h))
      step true e k = (k, key_is (event_key event fields) key e)
      step false e k = k
  key_history key (h ▸ In (Many es)) = key_history key h

  -- ---- the forks of a key

  fork_kept : (idle : Option ℕ) (fork : KeyFork) (h : History) → HistoryAll (Of fork.key) (of_fork idle fields fork h)
  fork_kept idle fork (since start) = tt
  fork_kept idle fork (h ▸ Tick) = fork_kept idle fork h
  fork_kept idle fork (h ▸ In (One event)) =
      step (same_fork (fork_of idle fields event h) fork) refl (fork_kept idle fork h)
    where
      step : (t : Bool) → same_fork (fork_of idle fields event h) fork ≡ t →
          HistoryAll (Of fork.key) (of_fork idle fields fork h) →
          HistoryAll (Of fork.key) (cond t (of_fork idle fields fork h ▸ In (One event)) (of_fork idle fields fork h))
      step true e k = (k, ap key_of_fork (fork_is (fork_of idle fields event h) fork e))
      step false e k = k
  fork_kept idle fork (h ▸ In (Many es)) = fork_kept idle fork h

  fork_all : (idle : Option ℕ) (fork : KeyFork) (h : History)
      → HistoryAll (Of fork.key) (fork_history idle fields fork h)
  fork_all idle fork h = subst (HistoryAll (Of fork.key)) (sym (fork_events idle fields fork h)) (fork_kept idle fork h)

  fork_twice : (idle : Option ℕ) (key : List Value) (h : History) →
      fork_history idle fields (fork_at idle fields key (of_key fields key h)) (of_key fields key h)
      ≡ fork_history idle fields (fork_at idle fields key h) h
  fork_twice idle key h =
      let fork = fork_at idle fields key h in
      ap (λ (number : ℕ). fork_history idle fields (the_fork key number) (of_key fields key h))
      (times_same idle fields fields key fork (λ event e. e) h)
      ∙ history_same idle fields fields key fork (λ event e. e) h

  module _ (idle : Option ℕ) (children otherwise : StreamTrees) (children_keep : plan_keeps fields children ≡ true)
      (otherwise_keep : plan_keeps fields otherwise ≡ true) where
    abbrev plan : StreamTrees
    plan = one_by idle fields children otherwise

    -- ---- the outputs at one entry

    at_tick-forks : (h : History) →
        outputs_at plan (h ▸ Tick)
        ≡ flat_map
        (λ branch. outputs_at (below children otherwise branch) (child_history (By fields idle) branch h ▸ Tick))
        (map Fork (live_forks idle fields h))
    at_tick-forks h = outputs_said (By fields idle) children otherwise h Tick ∙ append-nil _

    at_event : (h : History) (event : Event)
        → outputs_at plan (h ▸ In (One event))
        ≡ outputs_at children (fork_history idle fields (fork_of idle fields event h) h ▸ In (One event))
    at_event h event = outputs_said (By fields idle) children otherwise h (In (One event)) ∙ append-nil _

    at_vector : (h : History) (es : List Event) → outputs_at plan (h ▸ In (Many es)) ≡ []
    at_vector h es = outputs_said (By fields idle) children otherwise h (In (Many es))

    -- what a fork gives at a tick
    abbrev ticking : History → KeyFork → List Output
    ticking h fork = outputs_at children (fork_history idle fields fork h ▸ Tick)

    -- the fork to which the next event of a key goes
    abbrev now_of : History → List Value → KeyFork
    now_of h key = fork_at idle fields key h

    ticking_all : (h : History) (fork : KeyFork) → AllByRecursion (OutputAll (Of fork.key)) (ticking h fork)
    ticking_all h fork =
        outputs_kept (Of fork.key) (is_kept fork.key) children (plan_leaves fork.key children children_keep)
        (fork_history idle fields fork h ▸ Tick) (fork_all idle fork h)

    event_all : (h : History) (event : Event)
        → AllByRecursion (OutputAll (Of (event_key event fields))) (outputs_at plan (h ▸ In (One event)))
    event_all h event =
        let key = event_key event fields in
        let fork = fork_of idle fields event h in
        subst (AllByRecursion (OutputAll (Of key))) (sym (at_event h event))
        (outputs_kept (Of key) (is_kept key) children (plan_leaves key children children_keep)
        (fork_history idle fields fork h ▸ In (One event)) (fork_all idle fork h, refl))

    of_forks : (h : History) (key : List Value) (forks : List KeyFork) → IsDistinct same_key (map key_of_fork forks) →
        AllByRecursion (λ fork. fork.number ≡ times_ended idle fields fork.key h) forks →
        filter (output_has fields key)
        (flat_map
        (λ branch. outputs_at (below children otherwise branch) (child_history (By fields idle) branch h ▸ Tick))
        (map Fork forks))
        ≡ cond (is_among key (map key_of_fork forks)) (ticking h (now_of h key)) []
    unfolding IsDistinct
    of_forks h key [] apart latest = refl
    of_forks h key (first ∷ forks) apart latest =
        filter-append (output_has fields key) (ticking h first) _
        ∙ ap (λ l. filter (output_has fields key) (ticking h first) ++ l) (of_forks h key forks apart.1 latest.1)
        ∙ step (same_key first.key key) refl
      where
        absent : (first : List Value) (keys : List (List Value)) → key ≡ first
            → AllByRecursion (λ other. same_key first other ≡ false) keys → is_among key keys ≡ false
        absent first [] e k = refl
        absent first (next ∷ keys) e k =
            ap (λ t. t || is_among key keys) (turned (same_key next key) refl) ∙ absent first keys e k.1
          where
            turned : (t : Bool) → same_key next key ≡ t → t ≡ false
            turned false f = refl
            turned true f = absurd (true≢false (sym (key_same first next (sym e ∙ sym (key_is next key f))) ∙ k.0))

        is_now : first.key ≡ key → first ≡ now_of h key
        is_now same =
            ap (λ (number : ℕ). the_fork first.key number) latest.0
            ∙ ap (λ (k : List Value). fork_at idle fields k h) same

        step : (t : Bool) → same_key first.key key ≡ t →
            filter (output_has fields key) (ticking h first)
            ++ cond (is_among key (map key_of_fork forks)) (ticking h (now_of h key)) []
            ≡ cond (t || is_among key (map key_of_fork forks)) (ticking h (now_of h key)) []
        step true e =
            let same = key_is first.key key e in
            ap (λ l. filter (output_has fields key) (ticking h first) ++ l)
            (ap (λ t. cond t (ticking h (now_of h key)) [])
            (absent first.key (map key_of_fork forks) (sym same) apart.0))
            ∙ append-nil _
            ∙ ap (λ k. filter (output_has fields key) (ticking h k)) (is_now same)
            ∙ outputs_all key (ticking h (now_of h key)) (ticking_all h (now_of h key))
        step false e =
            ap (λ l. l ++ cond (is_among key (map key_of_fork forks)) (ticking h (now_of h key)) [])
            (outputs_none first.key key (ticking h first) e (ticking_all h first))

    -- a key without a live fork gives nothing
    unseen : (h : History) (key : List Value) → is_among key (live_keys idle fields h) ≡ false
        → ticking h (now_of h key) ≡ []
    unseen h key e =
        ap outputs_among (plan_quiet children (fork_history idle fields (now_of h key) h ▸ Tick)
        (unseen_forks_have_ticks idle fields (now_of h key) h (not_come idle fields key h e)))

    pub acts_at_tick : (h : History) (key : List Value)
        → outputs_for fields key plan (h ▸ Tick) ≡ ticking h (now_of h key)
    acts_at_tick h key =
        ap (filter (output_has fields key)) (at_tick-forks h)
        ∙ of_forks h key (live_forks idle fields h) (live_keys_are_apart idle fields h)
        (live_forks_are_the_latest idle fields h)
        ∙ step (is_among key (live_keys idle fields h)) refl
      where
        step : (t : Bool) → is_among key (live_keys idle fields h) ≡ t
            → cond t (ticking h (now_of h key)) [] ≡ ticking h (now_of h key)
        step true e = refl
        step false e = sym (unseen h key e)

    pub acts_at_own : (h : History) (key : List Value) (event : Event) → event_has fields key event ≡ true →
        outputs_for fields key plan (h ▸ In (One event))
        ≡ outputs_at children (fork_history idle fields (now_of h key) h ▸ In (One event))
    acts_at_own h key event e =
        let same = key_is (event_key event fields) key e in
        outputs_all key (outputs_at plan (h ▸ In (One event)))
        (subst (λ (k : List Value). AllByRecursion (OutputAll (Of k)) (outputs_at plan (h ▸ In (One event)))) same
        (event_all h event))
        ∙ at_event h event
        ∙ ap (λ (k : List Value). outputs_at children (fork_history idle fields (now_of h k) h ▸ In (One event))) same

    pub acts_at_other : (h : History) (key : List Value) (event : Event) → event_has fields key event ≡ false
        → outputs_for fields key plan (h ▸ In (One event)) ≡ []
    acts_at_other h key event e =
        outputs_none (event_key event fields) key (outputs_at plan (h ▸ In (One event))) e (event_all h event)

    other_fork : (h : History) (key : List Value) (event : Event) → event_has fields key event ≡ false
        → fork_history idle fields (now_of h key) (h ▸ In (One event)) ≡ fork_history idle fields (now_of h key) h
    other_fork h key event e =
        ap
        (λ t.
        cond t (fork_history idle fields (now_of h key) h ▸ In (One event)) (fork_history idle fields (now_of h key) h))
        (other_key idle fields event h (now_of h key) e)

    pub acts_by_forks : (key : List Value) (h : History) → ActsByForks idle fields key children otherwise h
    acts_by_forks key h = record {
      tick = acts_at_tick h key;
      own_event = acts_at_own h key;
      other_event = acts_at_other h key;
      other_fork = other_fork h key;
    }

    -- ---- the outputs over a history

    plan_all : (key : List Value) (h : History) → HistoryAll (Of key) h
        → AllByRecursion (OutputAll (Of key)) (outputs_at plan h)
    plan_all key h k =
        outputs_kept (Of key) (is_kept key) plan
        ((tt, plan_leaves key children children_keep, plan_leaves key otherwise otherwise_keep), tt) h k

    pub own_tick : (h : History) (key : List Value)
        → outputs_for fields key plan (h ▸ Tick) ≡ outputs_at plan (of_key fields key h ▸ Tick)
    own_tick h key =
        acts_at_tick h key ∙ sym (ap (λ g. outputs_at children (g ▸ Tick)) (fork_twice idle key h))
        ∙ sym (acts_at_tick (of_key fields key h) key)
        ∙ outputs_all key (outputs_at plan (of_key fields key h ▸ Tick))
        (plan_all key (of_key fields key h ▸ Tick) (key_history key h))

    pub own_event : (h : History) (key : List Value) (event : Event) → event_has fields key event ≡ true →
        outputs_for fields key plan (h ▸ In (One event)) ≡ outputs_at plan (of_key fields key h ▸ In (One event))
    own_event h key event e =
        acts_at_own h key event e ∙ sym (ap (λ g. outputs_at children (g ▸ In (One event))) (fork_twice idle key h))
        ∙ sym (acts_at_own (of_key fields key h) key event e)
        ∙ outputs_all key (outputs_at plan (of_key fields key h ▸ In (One event)))
        (plan_all key (of_key fields key h ▸ In (One event)) (key_history key h, key_is (event_key event fields) key e))

    pub own_outputs : (key : List Value) (h : History)
        → filter (output_has fields key) (outputs_of plan h) ≡ outputs_of plan (of_key fields key h)
    own_outputs key (since start) = refl
    own_outputs key (h ▸ Tick) =
        filter-append (output_has fields key) (outputs_of plan h) (outputs_at plan (h ▸ Tick))
        ∙ ap (λ l. l ++ outputs_for fields key plan (h ▸ Tick)) (own_outputs key h)
        ∙ ap (λ l. outputs_of plan (of_key fields key h) ++ l) (own_tick h key)
    own_outputs key (h ▸ In (One event)) =
        filter-append (output_has fields key) (outputs_of plan h) (outputs_at plan (h ▸ In (One event)))
        ∙ ap (λ l. l ++ outputs_for fields key plan (h ▸ In (One event))) (own_outputs key h)
        ∙ step (event_has fields key event) refl
      where
        step : (t : Bool) → event_has fields key event ≡ t →
            outputs_of plan (of_key fields key h) ++ outputs_for fields key plan (h ▸ In (One event))
            ≡ outputs_of plan (cond t (of_key fields key h ▸ In (One event)) (of_key fields key h))
        step true e = ap (λ l. outputs_of plan (of_key fields key h) ++ l) (own_event h key event e)
        step false e = ap (λ l. outputs_of plan (of_key fields key h) ++ l) (acts_at_other h key event e) ∙ append-nil _
    own_outputs key (h ▸ In (Many es)) =
        filter-append (output_has fields key) (outputs_of plan h) (outputs_at plan (h ▸ In (Many es)))
        ∙ ap (λ l. filter (output_has fields key) (outputs_of plan h) ++ filter (output_has fields key) l)
        (at_vector h es)
        ∙ append-nil _ ∙ own_outputs key h

    -- ---- one key each

    one_key : (key : List Value) (o : Output) → OutputAll (Of key) o → HasOneKey fields o
    one_key key o k = record { key = key; has = output_test key o k; only = λ other has. output_one key other o k has }

    all_one : (key : List Value) (os : List Output) → AllByRecursion (OutputAll (Of key)) os
        → AllByRecursion (HasOneKey fields) os
    all_one key os k = all-weaker (OutputAll (Of key)) (HasOneKey fields) (one_key key) os k

    one_of_forks : (h : History) (forks : List KeyFork) →
        AllByRecursion (HasOneKey fields)
        (flat_map
        (λ branch. outputs_at (below children otherwise branch) (child_history (By fields idle) branch h ▸ Tick))
        (map Fork forks))
    one_of_forks h [] = tt
    one_of_forks h (fork ∷ forks) =
        all-append (HasOneKey fields) (ticking h fork) _ (all_one fork.key (ticking h fork) (ticking_all h fork))
        (one_of_forks h forks)

    pub have_one : (h : History) → AllByRecursion (HasOneKey fields) (outputs_of plan h)
    have_one (since start) = tt
    have_one (h ▸ Tick) =
        all-append (HasOneKey fields) (outputs_of plan h) (outputs_at plan (h ▸ Tick)) (have_one h)
        (subst (AllByRecursion (HasOneKey fields)) (sym (at_tick-forks h)) (one_of_forks h (live_forks idle fields h)))
    have_one (h ▸ In (One event)) =
        all-append (HasOneKey fields) (outputs_of plan h) (outputs_at plan (h ▸ In (One event))) (have_one h)
        (all_one (event_key event fields) (outputs_at plan (h ▸ In (One event))) (event_all h event))
    have_one (h ▸ In (Many es)) =
        all-append (HasOneKey fields) (outputs_of plan h) (outputs_at plan (h ▸ In (Many es))) (have_one h)
        (subst (AllByRecursion (HasOneKey fields)) (sym (at_vector h es)) tt)

-- ---- the laws

-- the parts of the premise
pub record KeepsKeys (fields : List Field) (children otherwise : StreamTrees) : Type 0 where
  pub within : are_index_fields fields ≡ true
  pub children_keep : plan_keeps fields children ≡ true
  pub otherwise_keep : plan_keeps fields otherwise ≡ true

pub kept_parts : (fields : List Field) (children otherwise : StreamTrees) → keeps_keys fields children otherwise ≡ true
    → KeepsKeys fields children otherwise
kept_parts fields children otherwise e =
    let parts = both_true (are_index_fields fields) (plan_keeps fields children && plan_keeps fields otherwise) e in
    let below = both_true (plan_keeps fields children) (plan_keeps fields otherwise) parts.1 in
    record { within = parts.0; children_keep = below.0; otherwise_keep = below.1 }

pub keys_act_by_forks : KeysActByForks
keys_act_by_forks idle fields key children otherwise h own =
    let parts = kept_parts fields children otherwise own in
    acts_by_forks fields parts.within idle children otherwise parts.children_keep parts.otherwise_keep key h

pub keys_have_outputs : KeysHaveTheirOutputs
keys_have_outputs idle fields key children otherwise h own =
    let parts = kept_parts fields children otherwise own in
    own_outputs fields parts.within idle children otherwise parts.children_keep parts.otherwise_keep key h

pub outputs_have_one : OutputsHaveOneKey
outputs_have_one idle fields children otherwise h own =
    let parts = kept_parts fields children otherwise own in
    have_one fields parts.within idle children otherwise parts.children_keep parts.otherwise_keep h
