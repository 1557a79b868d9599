-- What streams that keep nothing do for a key, and plans of such streams and of `by`.
use Rattle.std.proofs.Common.{◌≡◌, ℕ, Bool, true, false, ◌&&◌, ◌||◌, cond, ◌⊎◌, inl, inr, List, [], ◌∷◌, ◌++◌, refl}
use Rattle.std.proofs.Common.{sym, ap, ◌∙◌, subst}
use mathlib.Core.Bool.{true≢false}
use Rattle.std.specs.List.{AllByRecursion, filter, flat_map}
use Rattle.std.proofs.lemmas.List.{append-nil}
use Rattle.std.proofs.lemmas.List.Elements.{filter-append}
use Rattle.ev_types.specs.declared.event.Event.{Event}
use Rattle.ev_types.specs.declared.field.Field.{Field}
use Rattle.ev_types.specs.declared.item.Item.TheVariants.{One, Many}
use Rattle.ev_types.specs.declared.item.Output.{Output}
use Rattle.ev_types.specs.declared.item.Output.TheVariants.{Notice as notice, Write as write}
use Rattle.ev_types.specs.declared.value.Value.{Value}
use Rattle.ev_types.specs.Key.{same_key, event_key}
use Rattle.ev_types.specs.Set.{with_tag}
use Rattle.index_log.specs.OfKey.{are_index_fields, event_has}
use Rattle.index_log.proofs.OfKeyLaws.{both_true}
use Rattle.stream_plan.specs.Tree.{KindTree, Index, Notice, Sdo, Where, With, Default, Tag, By, StreamTree, StreamTrees}
use Rattle.stream_plan.specs.Tree.{stream, none, also}
use Rattle.stream_meaning.specs.declared.entry.Entry.TheVariants.{Tick, Item as In}
use Rattle.stream_meaning.specs.declared.entry.Entry.{Entry}
use Rattle.stream_meaning.specs.History.{History, since, ◌▸◌, moment_of}
use Rattle.stream_meaning.specs.Images.{with_sets, with_defaults, with_tags}
use Rattle.stream_meaning.specs.Emission.{Branch, Children, Otherwise, Fork, Emission, emissions, to, image_of, passed}
use Rattle.stream_meaning.specs.Emission.{routed}
use Rattle.stream_meaning.specs.Branches.{same_branch, after_emissions, child_history, branches}
use Rattle.stream_meaning.specs.Outputs.{outputs_at}
use Rattle.stream_meaning.specs.Keys.{output_has, kind_keeps, plan_keeps}
use Rattle.stream_meaning.specs.KeyLaws.{outputs_for, HasOneKey}
use Rattle.stream_meaning.specs.Laws.{below, of_key, own_outputs, outputs_at_emissions}
use Rattle.stream_meaning.proofs.KeptEvents.{all-append, Leaves}
use Rattle.stream_meaning.proofs.KeyLaws.{plan_leaves}
use Rattle.stream_meaning.proofs.OutputLaws.{outputs_said, outputs_grow}
use Rattle.key_laws.specs.Apart.{has_all, keeps_nothing, stream_apart, plan_apart}
use Rattle.key_laws.proofs.KeyMoments.{key_moments}
use Rattle.key_laws.proofs.KeyValues.{IsOf, key_is, key_same, of_is_kept}
use Rattle.key_laws.proofs.SplitLaws.{Splits, GivesOne, by_splits, by_gives_one}

-- it is of none, or of one event that has the key of another
abbrev PassesOne : List Field → Event → List Emission → Type 0
PassesOne fields event es =
    (es ≡ [])
    ⊎ ((branch : Branch) × (given : Event) × (es ≡ to branch (One given))
    × (event_key given fields ≡ event_key event fields))

module _ (fields : List Field) (within : are_index_fields fields ≡ true) where
  -- what a stream that keeps nothing does with an entry
  record IsPlain (kind : KindTree) : Type 0 where
    image : Entry → List Emission
    is : (h : History) (x : Entry) → emissions kind (h ▸ x) ≡ image x
    two : (h : History) → branches kind h ≡ Children ∷ (Otherwise ∷ [])
    tick : image Tick ≡ []
    event : (event : Event) → PassesOne fields event (image (In (One event)))
    vector : (key : List Value) (es : List Event) (branch : Branch) (h : History) →
        of_key fields key (after_emissions branch (image (In (Many es))) h) ≡ of_key fields key h
    gives : (key : List Value) (h : History) (event : Event) →
        filter (output_has fields key) (own_outputs kind (h ▸ In (One event)))
        ≡ cond (event_has fields key event) (own_outputs kind (of_key fields key h ▸ In (One event))) []
    one : (h : History) (event : Event) → AllByRecursion (HasOneKey fields) (own_outputs kind (h ▸ In (One event)))

  leaves : (kind : KindTree) → kind_keeps fields kind ≡ true → (key : List Value) → Leaves (IsOf fields key) kind
  leaves kind e key =
      (plan_leaves fields within key (also (stream kind none none) none)
      (ap (λ t. (t && (true && true)) && true) e)).0.0

  tags_kept : (tags : List (List ℕ)) (event : Event) → event_key (with_tags tags event) fields ≡ event_key event fields
  tags_kept [] event = refl
  tags_kept (tag ∷ tags) event =
      let kept = of_is_kept fields within (event_key event fields) in
      tags_kept tags (with_tag event tag) ∙ kept.tag event tag refl

  abbrev silent : List Output
  silent = []

  nothing : (t : Bool) → silent ≡ cond t silent silent
  nothing true = refl
  nothing false = refl

  writes_one : (event : Event) → HasOneKey fields (write event)
  writes_one event = record {
    key = event_key event fields;
    has = key_same (event_key event fields) (event_key event fields) refl;
    only = λ other has. sym (key_is (event_key event fields) other has);
  }

  notice_one : (name : List ℕ) (moment : ℕ) (event : Event)
      → HasOneKey fields (notice (record { name = name; moment = moment; item = One event }))
  notice_one name moment event = record {
    key = event_key event fields;
    has = key_same (event_key event fields) (event_key event fields) refl;
    only = λ other has. sym (key_is (event_key event fields) other has);
  }

  plain_index : IsPlain Index
  plain_index = record {
    image = λ x. [];
    is = λ h x. refl;
    two = λ h. refl;
    tick = refl;
    event = λ event. inl refl;
    vector = λ key es branch h. refl;
    gives = λ key h event. refl;
    one = λ h event. (writes_one event, tt);
  }

  plain_notice : (name : List ℕ) → IsPlain (Notice name)
  plain_notice name = record {
    image = λ x. [];
    is = λ h x. refl;
    two = λ h. refl;
    tick = refl;
    event = λ event. inl refl;
    vector = λ key es branch h. refl;
    gives =
        λ key h event. ap
        (λ (moment : ℕ).
        cond (event_has fields key event) (notice (record { name = name; moment = moment; item = One event }) ∷ []) [])
        (sym (key_moments fields key h).ends);
    one = λ h event. (notice_one name (moment_of h) event, tt);
  }

  sdo_vector : (key : List Value) (es : List Event) (branch : Branch) (h : History)
      → of_key fields key (after_emissions branch (passed (In (Many es))) h) ≡ of_key fields key h
  sdo_vector key es Children h = refl
  sdo_vector key es Otherwise h = refl
  sdo_vector key es (Fork other) h = refl

  plain_sdo : IsPlain Sdo
  plain_sdo = record {
    image = passed;
    is = λ h x. refl;
    two = λ h. refl;
    tick = refl;
    event = λ event. inr (Children, event, refl, refl);
    vector = sdo_vector;
    gives = λ key h event. nothing (event_has fields key event);
    one = λ h event. tt;
  }

  plain_image : (change : Event → Event) → ((event : Event) → event_key (change event) fields ≡ event_key event fields)
      → (kind : KindTree)
      → ((h : History) (x : Entry) → emissions kind (h ▸ x) ≡ image_of change x)
      → ((h : History) → branches kind h ≡ Children ∷ (Otherwise ∷ []))
      → ((h : History) (event : Event) → own_outputs kind (h ▸ In (One event)) ≡ []) → IsPlain kind
  plain_image change kept kind is two quiet = record {
    image = image_of change;
    is = is;
    two = two;
    tick = refl;
    event = λ event. inr (Children, change event, refl, kept event);
    vector = λ key es branch h. refl;
    gives = λ key h event. ap (filter (output_has fields key)) (quiet h event) ∙ nothing (event_has fields key event)
        ∙ ap (λ (os : List Output). cond (event_has fields key event) os []) (sym (quiet (of_key fields key h) event));
    one = λ h event. subst (AllByRecursion (HasOneKey fields)) (sym (quiet h event)) tt;
  }

  plain : (kind : KindTree) → keeps_nothing kind ≡ true → kind_keeps fields kind ≡ true → IsPlain kind
  plain Index e keeps = plain_index
  plain (Notice name) e keeps = plain_notice name
  plain Sdo e keeps = plain_sdo
  plain (Where rule) e keeps = record {
    image = routed rule;
    is = λ h x. refl;
    two = λ h. refl;
    tick = refl;
    event = λ event. inr (_, event, refl, refl);
    vector = λ key es branch h. refl;
    gives = λ key h event. nothing (event_has fields key event);
    one = λ h event. tt;
  }
  plain (With sets) e keeps =
      plain_image (with_sets sets) (λ event. leaves (With sets) keeps (event_key event fields) event refl) (With sets)
      (λ h x. refl) (λ h. refl) (λ h event. refl)
  plain (Default sets) e keeps =
      plain_image (with_defaults sets) (λ event. leaves (Default sets) keeps (event_key event fields) event refl)
      (Default sets) (λ h x. refl) (λ h. refl) (λ h event. refl)
  plain (Tag tags) e keeps =
      plain_image (with_tags tags) (tags_kept tags) (Tag tags) (λ h x. refl) (λ h. refl) (λ h event. refl)
  plain kind e keeps = absurd (true≢false (sym e))

  -- ---- what a branch receives

  module _ (kind : KindTree) (acts : IsPlain kind) where
    quiet : (h : History) → emissions kind (h ▸ Tick) ≡ []
    quiet h = acts.is h Tick ∙ acts.tick

    module _ (key : List Value) where
      received : (t : Bool) (event : Event) → event_has fields key event ≡ t → (es : List Emission) →
          PassesOne fields event es → (branch : Branch) (g : History) →
          of_key fields key (after_emissions branch es g)
          ≡ cond t (after_emissions branch es (of_key fields key g)) (of_key fields key g)
      received t event e es (inl is) branch g =
          ap (λ (l : List Emission). of_key fields key (after_emissions branch l g)) is ∙ neither t
          ∙ sym
          (ap (λ (l : List Emission). cond t (after_emissions branch l (of_key fields key g)) (of_key fields key g)) is)
        where
          neither : (t : Bool) → of_key fields key g ≡ cond t (of_key fields key g) (of_key fields key g)
          neither true = refl
          neither false = refl
      received t event e es (inr (target, given, is, same)) branch g =
          ap (λ (l : List Emission). of_key fields key (after_emissions branch l g)) is
          ∙ goes (same_branch target branch)
          ∙ sym
          (ap (λ (l : List Emission). cond t (after_emissions branch l (of_key fields key g)) (of_key fields key g)) is)
        where
          neither : (t : Bool) → of_key fields key g ≡ cond t (of_key fields key g) (of_key fields key g)
          neither true = refl
          neither false = refl

          goes : (s : Bool)
              → of_key fields key (cond s (g ▸ In (One given)) g)
              ≡ cond t (cond s (of_key fields key g ▸ In (One given)) (of_key fields key g)) (of_key fields key g)
          goes true =
              ap (λ u. cond u (of_key fields key g ▸ In (One given)) (of_key fields key g))
              (ap (λ (k : List Value). same_key k key) same ∙ e)
          goes false = neither t

      commutes : (branch : Branch) (h : History)
          → child_history kind branch (of_key fields key h) ≡ of_key fields key (child_history kind branch h)
      commutes branch (since start) = refl
      commutes branch (h ▸ Tick) =
          ap
          (λ (es : List Emission). after_emissions branch es (child_history kind branch (of_key fields key h) ▸ Tick))
          (quiet (of_key fields key h))
          ∙ ap (λ g. g ▸ Tick) (commutes branch h)
          ∙ sym (ap
          (λ (es : List Emission). of_key fields key (after_emissions branch es (child_history kind branch h ▸ Tick)))
          (quiet h))
      commutes branch (h ▸ In (One event)) = step (event_has fields key event) refl (commutes branch h)
        where
          all : List Emission
          all = acts.image (In (One event))

          so : (t : Bool) → event_has fields key event ≡ t →
              of_key fields key (child_history kind branch (h ▸ In (One event)))
              ≡ cond t (after_emissions branch all (of_key fields key (child_history kind branch h)))
              (of_key fields key (child_history kind branch h))
          so t e =
              ap (λ (es : List Emission). of_key fields key (after_emissions branch es (child_history kind branch h)))
              (acts.is h (In (One event)))
              ∙ received t event e all (acts.event event) branch (child_history kind branch h)

          step : (t : Bool) → event_has fields key event ≡ t →
              child_history kind branch (of_key fields key h) ≡ of_key fields key (child_history kind branch h) →
              child_history kind branch (cond t (of_key fields key h ▸ In (One event)) (of_key fields key h))
              ≡ of_key fields key (child_history kind branch (h ▸ In (One event)))
          step true e ih =
              ap (λ (es : List Emission). after_emissions branch es (child_history kind branch (of_key fields key h)))
              (acts.is (of_key fields key h) (In (One event)))
              ∙ ap (after_emissions branch all) ih ∙ sym (so true e)
          step false e ih = ih ∙ sym (so false e)
      commutes branch (h ▸ In (Many es)) =
          commutes branch h
          ∙ sym (ap (λ (l : List Emission). of_key fields key (after_emissions branch l (child_history kind branch h)))
          (acts.is h (In (Many es)))
          ∙ acts.vector key es branch (child_history kind branch h))

    -- ---- what the stream and those below it give

    module _ (children otherwise : StreamTrees) where
      abbrev plan : StreamTrees
      plan = also (stream kind children otherwise) none

      abbrev in_branch : Branch → StreamTrees
      in_branch = below children otherwise

      abbrev had : History → Branch → History
      had h branch = child_history kind branch h

      abbrev emitted : History → List Emission → List Output
      emitted h es = outputs_at_emissions in_branch (had h) es

      at_tick : (h : History)
          → outputs_at plan (h ▸ Tick)
          ≡ outputs_at children (had h Children ▸ Tick) ++ outputs_at otherwise (had h Otherwise ▸ Tick)
      at_tick h =
          outputs_said kind children otherwise h Tick
          ∙ ap
          (λ (bs : List Branch). flat_map (λ branch. outputs_at (in_branch branch) (had h branch ▸ Tick)) bs
          ++ outputs_at_emissions in_branch (λ branch. had h branch ▸ Tick) (emissions kind (h ▸ Tick)))
          (acts.two h)
          ∙ ap
          (λ (es : List Emission). (outputs_at children (had h Children ▸ Tick)
          ++ (outputs_at otherwise (had h Otherwise ▸ Tick) ++ []))
          ++ outputs_at_emissions in_branch (λ branch. had h branch ▸ Tick) es)
          (quiet h)
          ∙ append-nil _
          ∙ ap (λ l. outputs_at children (had h Children ▸ Tick) ++ l)
          (append-nil (outputs_at otherwise (had h Otherwise ▸ Tick)))

      at_event : (h : History) (event : Event)
          → outputs_at plan (h ▸ In (One event))
          ≡ own_outputs kind (h ▸ In (One event)) ++ emitted h (acts.image (In (One event)))
      at_event h event =
          outputs_said kind children otherwise h (In (One event))
          ∙ ap (λ (es : List Emission). own_outputs kind (h ▸ In (One event)) ++ emitted h es)
          (acts.is h (In (One event)))

      plain_gives_one : GivesOne fields children → GivesOne fields otherwise → GivesOne fields plan
      plain_gives_one c o = record {
        tick = λ h. subst (AllByRecursion (HasOneKey fields)) (sym (at_tick h))
            (all-append (HasOneKey fields) (outputs_at children (had h Children ▸ Tick))
            (outputs_at otherwise (had h Otherwise ▸ Tick)) (c.tick (had h Children)) (o.tick (had h Otherwise)));
        event = λ h event. subst (AllByRecursion (HasOneKey fields)) (sym (at_event h event))
            (all-append (HasOneKey fields) (own_outputs kind (h ▸ In (One event)))
            (emitted h (acts.image (In (One event)))) (acts.one h event)
            (emitted_one h event (acts.image (In (One event))) (acts.event event)));
      }
        where
          in_one : (branch : Branch) → GivesOne fields (in_branch branch)
          in_one Children = c
          in_one Otherwise = o
          in_one (Fork fork) = c

          emitted_one : (h : History) (event : Event) (es : List Emission) → PassesOne fields event es
              → AllByRecursion (HasOneKey fields) (emitted h es)
          emitted_one h event es (inl is) =
              subst (λ (l : List Emission). AllByRecursion (HasOneKey fields) (emitted h l)) (sym is) tt
          emitted_one h event es (inr (target, given, is, same)) =
              subst (λ (l : List Emission). AllByRecursion (HasOneKey fields) (emitted h l)) (sym is)
              (all-append (HasOneKey fields) (outputs_at (in_branch target) (had h target ▸ In (One given))) []
              ((in_one target).event (had h target) given) tt)

      module _ (key : List Value) (c : Splits fields key children) (o : Splits fields key otherwise) where
        in_split : (branch : Branch) → Splits fields key (in_branch branch)
        in_split Children = c
        in_split Otherwise = o
        in_split (Fork other) = c

        of_own : (given event : Event) (t : Bool) → event_key given fields ≡ event_key event fields
            → event_has fields key event ≡ t → event_has fields key given ≡ t
        of_own given event t same e = ap (λ (k : List Value). same_key k key) same ∙ e

        emitted_own : (h : History) (event : Event) → event_has fields key event ≡ true → (es : List Emission) →
            PassesOne fields event es →
            filter (output_has fields key) (emitted h es) ≡ emitted (of_key fields key h) es
        emitted_own h event e es (inl is) =
            ap (λ (l : List Emission). filter (output_has fields key) (emitted h l)) is
            ∙ sym (ap (λ (l : List Emission). emitted (of_key fields key h) l) is)
        emitted_own h event e es (inr (target, given, is, same)) =
            ap (λ (l : List Emission). filter (output_has fields key) (emitted h l)) is
            ∙ ap (filter (output_has fields key))
            (append-nil (outputs_at (in_branch target) (had h target ▸ In (One given))))
            ∙ (in_split target).own (had h target) given (of_own given event true same e)
            ∙ ap (λ g. outputs_at (in_branch target) (g ▸ In (One given))) (sym (commutes key target h))
            ∙ sym (append-nil (outputs_at (in_branch target) (had (of_key fields key h) target ▸ In (One given))))
            ∙ sym (ap (λ (l : List Emission). emitted (of_key fields key h) l) is)

        emitted_other : (h : History) (event : Event) → event_has fields key event ≡ false → (es : List Emission) →
            PassesOne fields event es →
            filter (output_has fields key) (emitted h es) ≡ []
        emitted_other h event e es (inl is) =
            ap (λ (l : List Emission). filter (output_has fields key) (emitted h l)) is
        emitted_other h event e es (inr (target, given, is, same)) =
            ap (λ (l : List Emission). filter (output_has fields key) (emitted h l)) is
            ∙ ap (filter (output_has fields key))
            (append-nil (outputs_at (in_branch target) (had h target ▸ In (One given))))
            ∙ (in_split target).other (had h target) given (of_own given event false same e)

        tick_split : (h : History)
            → outputs_for fields key plan (h ▸ Tick) ≡ outputs_at plan (of_key fields key h ▸ Tick)
        tick_split h =
            ap (filter (output_has fields key)) (at_tick h)
            ∙ filter-append (output_has fields key) (outputs_at children (had h Children ▸ Tick))
            (outputs_at otherwise (had h Otherwise ▸ Tick))
            ∙ ap (λ l. l ++ outputs_for fields key otherwise (had h Otherwise ▸ Tick)) (c.tick (had h Children))
            ∙ ap (λ l. outputs_at children (of_key fields key (had h Children) ▸ Tick) ++ l) (o.tick (had h Otherwise))
            ∙ ap
            (λ g. outputs_at children (g ▸ Tick) ++ outputs_at otherwise (of_key fields key (had h Otherwise) ▸ Tick))
            (sym (commutes key Children h))
            ∙ ap
            (λ g. outputs_at children (had (of_key fields key h) Children ▸ Tick) ++ outputs_at otherwise (g ▸ Tick))
            (sym (commutes key Otherwise h))
            ∙ sym (at_tick (of_key fields key h))

        at_event_split : (h : History) (event : Event) (t : Bool) → event_has fields key event ≡ t →
            outputs_for fields key plan (h ▸ In (One event))
            ≡ cond t (own_outputs kind (of_key fields key h ▸ In (One event))) []
            ++ filter (output_has fields key) (emitted h (acts.image (In (One event))))
        at_event_split h event t e =
            ap (filter (output_has fields key)) (at_event h event)
            ∙ filter-append (output_has fields key) (own_outputs kind (h ▸ In (One event)))
            (emitted h (acts.image (In (One event))))
            ∙ ap (λ l. l ++ filter (output_has fields key) (emitted h (acts.image (In (One event)))))
            (acts.gives key h event ∙ ap (λ t. cond t (own_outputs kind (of_key fields key h ▸ In (One event))) []) e)

        plain_splits : Splits fields key plan
        plain_splits = record {
          tick = tick_split;
          own = λ h event e. at_event_split h event true e
              ∙ ap (λ l. own_outputs kind (of_key fields key h ▸ In (One event)) ++ l)
              (emitted_own h event e (acts.image (In (One event))) (acts.event event))
              ∙ sym (at_event (of_key fields key h) event);
          other =
              λ h event e.
              at_event_split h event false e ∙ emitted_other h event e (acts.image (In (One event))) (acts.event event);
        }

  -- ---- whole plans

  also_gives_one : (first : StreamTree) (more : StreamTrees) → GivesOne fields (also first none) → GivesOne fields more
      → GivesOne fields (also first more)
  also_gives_one first more a b = record {
    tick = λ h. subst (AllByRecursion (HasOneKey fields)) (sym (outputs_grow.streams first more (h ▸ Tick)))
        (all-append (HasOneKey fields) (outputs_at (also first none) (h ▸ Tick)) (outputs_at more (h ▸ Tick)) (a.tick h)
        (b.tick h));
    event =
        λ h event.
        subst (AllByRecursion (HasOneKey fields)) (sym (outputs_grow.streams first more (h ▸ In (One event))))
        (all-append (HasOneKey fields) (outputs_at (also first none) (h ▸ In (One event)))
        (outputs_at more (h ▸ In (One event))) (a.event h event) (b.event h event));
  }

  also_splits : (key : List Value) (first : StreamTree) (more : StreamTrees) → Splits fields key (also first none)
      → Splits fields key more → Splits fields key (also first more)
  also_splits key first more a b = record {
    tick = λ h. both (h ▸ Tick) ∙ ap (λ l. l ++ outputs_for fields key more (h ▸ Tick)) (a.tick h)
        ∙ ap (λ l. outputs_at (also first none) (of_key fields key h ▸ Tick) ++ l) (b.tick h)
        ∙ sym (outputs_grow.streams first more (of_key fields key h ▸ Tick));
    own =
        λ h event e.
        both (h ▸ In (One event)) ∙ ap (λ l. l ++ outputs_for fields key more (h ▸ In (One event))) (a.own h event e)
        ∙ ap (λ l. outputs_at (also first none) (of_key fields key h ▸ In (One event)) ++ l) (b.own h event e)
        ∙ sym (outputs_grow.streams first more (of_key fields key h ▸ In (One event)));
    other =
        λ h event e. both (h ▸ In (One event))
        ∙ ap (λ l. l ++ outputs_for fields key more (h ▸ In (One event))) (a.other h event e) ∙ b.other h event e;
  }
    where
      both : (h : History)
          → outputs_for fields key (also first more) h
          ≡ outputs_for fields key (also first none) h ++ outputs_for fields key more h
      both h =
          ap (filter (output_has fields key)) (outputs_grow.streams first more h)
          ∙ filter-append (output_has fields key) (outputs_at (also first none) h) (outputs_at more h)

  none_gives_one : GivesOne fields none
  none_gives_one = record { tick = λ h. tt; event = λ h event. tt }

  none_splits : (key : List Value) → Splits fields key none
  none_splits key = record { tick = λ h. refl; own = λ h event e. refl; other = λ h event e. refl }

  -- the parts of the test of a stream that keeps nothing
  record PlainParts (kind : KindTree) (children otherwise : StreamTrees) : Type 0 where
    acts : IsPlain kind
    children_apart : plan_apart fields children ≡ true
    otherwise_apart : plan_apart fields otherwise ≡ true

  plain_parts : (kind : KindTree) (children otherwise : StreamTrees) →
      keeps_nothing kind && (kind_keeps fields kind && (plan_apart fields children && plan_apart fields otherwise))
      ≡ true →
      PlainParts kind children otherwise
  plain_parts kind children otherwise e =
      let first =
      both_true (keeps_nothing kind)
      (kind_keeps fields kind && (plan_apart fields children && plan_apart fields otherwise)) e in
      let second =
      both_true (kind_keeps fields kind) (plan_apart fields children && plan_apart fields otherwise) first.1 in
      let third = both_true (plan_apart fields children) (plan_apart fields otherwise) second.1 in
      record { acts = plain kind first.0 second.0; children_apart = third.0; otherwise_apart = third.1 }

  record ByParts (others : List Field) (children : StreamTrees) : Type 0 where
    split : has_all fields others ≡ true
    keep : plan_keeps fields children ≡ true

  or_nothing : (t : Bool) → t || false ≡ true → t ≡ true
  or_nothing true e = refl
  or_nothing false e = absurd (true≢false (sym e))

  by_parts : (others : List Field) (children otherwise : StreamTrees) →
      (has_all fields others && (plan_keeps fields children && plan_keeps fields otherwise)) || false ≡ true →
      ByParts others children
  by_parts others children otherwise e =
      let first =
      both_true (has_all fields others) (plan_keeps fields children && plan_keeps fields otherwise) (or_nothing _ e) in
      record {
        split = first.0;
        keep = (both_true (plan_keeps fields children) (plan_keeps fields otherwise) first.1).0;
      }

  mutual
    stream_gives_one : (s : StreamTree) → stream_apart fields s ≡ true → GivesOne fields (also s none)
    stream_gives_one (stream (By others idle) children otherwise) e =
        let parts = by_parts others children otherwise e in
        by_gives_one idle fields others within parts.split children otherwise parts.keep
    stream_gives_one (stream kind children otherwise) e =
        let parts = plain_parts kind children otherwise e in
        plain_gives_one kind parts.acts children otherwise (plan_gives_one children parts.children_apart)
        (plan_gives_one otherwise parts.otherwise_apart)

    pub plan_gives_one : (plan : StreamTrees) → plan_apart fields plan ≡ true → GivesOne fields plan
    plan_gives_one none e = none_gives_one
    plan_gives_one (also first more) e =
        let parts = both_true (stream_apart fields first) (plan_apart fields more) e in
        also_gives_one first more (stream_gives_one first parts.0) (plan_gives_one more parts.1)

  mutual
    stream_splits : (key : List Value) (s : StreamTree) → stream_apart fields s ≡ true → Splits fields key (also s none)
    stream_splits key (stream (By others idle) children otherwise) e =
        let parts = by_parts others children otherwise e in
        by_splits idle fields others within parts.split children otherwise parts.keep key
    stream_splits key (stream kind children otherwise) e =
        let parts = plain_parts kind children otherwise e in
        plain_splits kind parts.acts children otherwise key (plan_splits key children parts.children_apart)
        (plan_splits key otherwise parts.otherwise_apart)

    pub plan_splits : (key : List Value) (plan : StreamTrees) → plan_apart fields plan ≡ true → Splits fields key plan
    plan_splits key none e = none_splits key
    plan_splits key (also first more) e =
        let parts = both_true (stream_apart fields first) (plan_apart fields more) e in
        also_splits key first more (stream_splits key first parts.0) (plan_splits key more parts.1)
