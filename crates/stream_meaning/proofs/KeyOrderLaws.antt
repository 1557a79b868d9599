-- The keys that came are those of the events, each after those that came before it.
use Rattle.std.proofs.Common.{◌≡◌, ◌⊎◌, inl, inr, Bool, true, false, cond, List, [], ◌∷◌, ◌++◌, refl, sym, ap, subst}
use Rattle.std.proofs.Common.{◌∙◌, append_assoc}
use Rattle.std.specs.Prelude.{Contains}
use Rattle.std.proofs.lemmas.List.{map-append, append-nil}
use Rattle.std.proofs.lemmas.List.Elements.{Contains-append_left, Contains-push, Contains-push_cases}
use Rattle.std.proofs.lemmas.Map.Views.{Contains-from_any}
use Rattle.ev_types.specs.declared.event.Event.{Event}
use Rattle.ev_types.specs.declared.field.Field.{Field}
use Rattle.ev_types.specs.declared.item.Item.TheVariants.{One, Many}
use Rattle.ev_types.specs.declared.value.Value.{Value}
use Rattle.ev_types.specs.Key.{same_key, event_key}
use Rattle.ev_types.proofs.Values.{same_key_decides}
use Rattle.stream_meaning.specs.History.{History, since, ◌▸◌, Entry, Tick, In}
use Rattle.stream_meaning.specs.Came.{events}
use Rattle.stream_meaning.specs.Branches.{fork_keys}
use Rattle.stream_meaning.specs.Laws.{is_among}
use Rattle.stream_meaning.specs.KeyOrderLaws.{keys_that_came, KeysAreThoseThatCame, lengthened, AddsKeys}
use Rattle.stream_meaning.specs.KeyOrderLaws.{KeysStayInOrder}

pub among_is : (key : List Value) (keys : List (List Value)) → is_among key keys ≡ true → Contains keys key
among_is key keys e =
    Contains-from_any {eq = λ a b. same_key b a} (λ a b same. sym ((same_key_decides b a).0 same)) key keys e

pushed : (keys : List (List Value)) (new key : List Value) → Contains keys key ⊎ (new ≡ key)
    → Contains (keys ++ new ∷ []) key
pushed keys new key (inl there) = Contains-append_left keys (new ∷ []) key there
pushed keys new key (inr is) = subst (Contains (keys ++ new ∷ [])) is (Contains-push keys new)

-- of keys among which the new one is already (t) or not
with_from : (t : Bool) (keys : List (List Value)) (new key : List Value) → is_among new keys ≡ t
    → Contains (cond t keys (keys ++ new ∷ [])) key → Contains keys key ⊎ (new ≡ key)
with_from true keys new key e there = inl there
with_from false keys new key e there = Contains-push_cases keys new key there

with_to : (t : Bool) (keys : List (List Value)) (new key : List Value) → is_among new keys ≡ t
    → Contains keys key ⊎ (new ≡ key) → Contains (cond t keys (keys ++ new ∷ [])) key
with_to true keys new key e (inl there) = there
with_to true keys new key e (inr is) = subst (Contains keys) is (among_is new keys e)
with_to false keys new key e either = pushed keys new key either

or_same : {A B C : Type 0} → (A → B) → A ⊎ C → B ⊎ C
or_same f (inl a) = inl (f a)
or_same f (inr c) = inr c

came_push : (fields : List Field) (h : History) (event : Event)
    → keys_that_came fields (h ▸ In (One event)) ≡ keys_that_came fields h ++ event_key event fields ∷ []
came_push fields h event = map-append (λ (e : Event). event_key e fields) (events h) (event ∷ [])

pub keys_are_those_that_came : KeysAreThoseThatCame
keys_are_those_that_came fields key (since start) = (λ there. there, λ there. there)
keys_are_those_that_came fields key (h ▸ Tick) = keys_are_those_that_came fields key h
keys_are_those_that_came fields key (h ▸ In (Many es)) = keys_are_those_that_came fields key h
keys_are_those_that_came fields key (h ▸ In (One event)) =
    let before = keys_are_those_that_came fields key h in
    let new : List Value = event_key event fields in
    let keys : List (List Value) = fork_keys fields h in
    let came : List (List Value) = keys_that_came fields h in
    let known : Bool = is_among new keys in (
      λ there. subst (λ (all : List (List Value)). Contains all key) (sym (came_push fields h event))
          (pushed came new key (or_same before.0 (with_from known keys new key refl there))),
      λ there. with_to known keys new key refl
          (or_same before.1 (Contains-push_cases came new key
          (subst (λ (all : List (List Value)). Contains all key) (came_push fields h event) there))),
    )

nothing_added : (keys : List (List Value)) → AddsKeys keys keys
nothing_added keys = record { later = []; is = sym (append-nil keys) }

one_added : (t : Bool) (keys : List (List Value)) (new : List Value) → AddsKeys keys (cond t keys (keys ++ new ∷ []))
one_added true keys new = nothing_added keys
one_added false keys new = record { later = new ∷ []; is = refl }

both_added : (a b c : List (List Value)) → AddsKeys a b → AddsKeys b c → AddsKeys a c
both_added a b c first second = record {
  later = first.later ++ second.later;
  is =
      second.is ∙ ap (λ (keys : List (List Value)). keys ++ second.later) first.is
      ∙ append_assoc a first.later second.later;
}

entry_adds : (fields : List Field) (h : History) (x : Entry) → AddsKeys (fork_keys fields h) (fork_keys fields (h ▸ x))
entry_adds fields h Tick = nothing_added (fork_keys fields h)
entry_adds fields h (In (Many es)) = nothing_added (fork_keys fields h)
entry_adds fields h (In (One event)) =
    one_added (is_among (event_key event fields) (fork_keys fields h)) (fork_keys fields h) (event_key event fields)

pub keys_stay_in_order : KeysStayInOrder
keys_stay_in_order fields h [] = nothing_added (fork_keys fields h)
keys_stay_in_order fields h (x ∷ more) =
    both_added (fork_keys fields h) (fork_keys fields (h ▸ x)) (fork_keys fields (lengthened (h ▸ x) more))
    (entry_adds fields h x) (keys_stay_in_order fields (h ▸ x) more)
