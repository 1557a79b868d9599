-- Without the events of other keys a fork has its events and its key its ends, as with them.
use Rattle.std.proofs.Common.{◌≡◌, ℕ, ◌+◌, ◌==◌, Bool, true, false, ◌&&◌, cond, List, Option, Some, refl, sym, ap, ◌∙◌}
use mathlib.Core.Bool.{true≢false}
use Rattle.ev_types.specs.declared.event.Event.{Event}
use Rattle.ev_types.specs.declared.field.Field.{Field}
use Rattle.ev_types.specs.declared.item.Item.TheVariants.{One, Many}
use Rattle.ev_types.specs.declared.value.Value.{Value}
use Rattle.ev_types.specs.Key.{same_key, event_key}
use Rattle.index_log.specs.OfKey.{event_has}
use Rattle.stream_meaning.specs.History.{History, since, ◌▸◌, Tick, In, moment_of, is_at}
use Rattle.stream_meaning.specs.Ends.{last_moment, idle_after, end_of, ends_next, times_ended, KeyFork, same_fork}
use Rattle.stream_meaning.specs.Ends.{fork_of}
use Rattle.stream_meaning.specs.Branches.{fork_history}
use Rattle.stream_meaning.specs.Laws.{of_key, of_fork}
use Rattle.stream_meaning.proofs.MetLaws.{and_false}
use Rattle.stream_meaning.proofs.ForkLaws.{fork_events}
use Rattle.stream_meaning.proofs.EndLaws.{key_is, the_fork}

pub moment_same : (fields : List Field) (key : List Value) (h : History) → moment_of (of_key fields key h) ≡ moment_of h
moment_same fields key (since start) = refl
moment_same fields key (h ▸ Tick) = ap (λ m. m + 1) (moment_same fields key h)
moment_same fields key (h ▸ In (One event)) = step (event_has fields key event) (moment_same fields key h)
  where
    step : (t : Bool) → moment_of (of_key fields key h) ≡ moment_of h
        → moment_of (cond t (of_key fields key h ▸ In (One event)) (of_key fields key h)) ≡ moment_of h
    step true same = same
    step false same = same
moment_same fields key (h ▸ In (Many es)) = moment_same fields key h

-- an event of another key goes to no fork of this one
pub other_key : (idle : Option ℕ) (others : List Field) (event : Event) (h : History) (fork : KeyFork)
    → same_key (event_key event others) fork.key ≡ false → same_fork (fork_of idle others event h) fork ≡ false
other_key idle others event h fork e =
    ap (λ t. (fork_of idle others event h).number == fork.number && t) e
    ∙ and_false ((fork_of idle others event h).number == fork.number)

-- all events of the fork's key, which some fields tell, are of a key that other fields tell
module _ (idle : Option ℕ) (fields others : List Field) (key : List Value) (fork : KeyFork)
    (of : (event : Event) → same_key (event_key event others) fork.key ≡ true → event_has fields key event ≡ true) where
  last_same : (h : History) → last_moment others fork.key (of_key fields key h) ≡ last_moment others fork.key h
  last_same (since start) = refl
  last_same (h ▸ Tick) = last_same h
  last_same (h ▸ In (One event)) =
      step (same_key (event_key event others) fork.key) refl (event_has fields key event) refl (last_same h)
    where
      step : (s : Bool) → same_key (event_key event others) fork.key ≡ s → (t : Bool) → event_has fields key event ≡ t →
          last_moment others fork.key (of_key fields key h) ≡ last_moment others fork.key h →
          last_moment others fork.key (cond t (of_key fields key h ▸ In (One event)) (of_key fields key h))
          ≡ cond s (Some (moment_of h)) (last_moment others fork.key h)
      step true e true f same =
          ap (λ t. cond t (Some (moment_of (of_key fields key h))) (last_moment others fork.key (of_key fields key h)))
          e
          ∙ ap (λ (m : ℕ). Some m) (moment_same fields key h)
      step true e false f same = absurd (true≢false (sym (of event e) ∙ f))
      step false e true f same =
          ap (λ t. cond t (Some (moment_of (of_key fields key h))) (last_moment others fork.key (of_key fields key h)))
          e
          ∙ same
      step false e false f same = same
  last_same (h ▸ In (Many es)) = last_same h

  pub ends_same : (h : History)
      → ends_next idle others fork.key (of_key fields key h) ≡ ends_next idle others fork.key h
  ends_same h =
      ap (λ (m : ℕ). is_at (m + 1) (end_of idle others fork.key (of_key fields key h))) (moment_same fields key h)
      ∙ ap (λ (last : Option ℕ). is_at (moment_of h + 1) (idle_after idle last)) (last_same h)

  pub times_same : (h : History)
      → times_ended idle others fork.key (of_key fields key h) ≡ times_ended idle others fork.key h
  times_same (since start) = refl
  times_same (h ▸ Tick) =
      ap
      (λ t. cond t (times_ended idle others fork.key (of_key fields key h) + 1)
      (times_ended idle others fork.key (of_key fields key h)))
      (ends_same h)
      ∙ ap (λ (n : ℕ). cond (ends_next idle others fork.key h) (n + 1) n) (times_same h)
  times_same (h ▸ In (One event)) = step (event_has fields key event) (times_same h)
    where
      step : (t : Bool) → times_ended idle others fork.key (of_key fields key h) ≡ times_ended idle others fork.key h →
          times_ended idle others fork.key (cond t (of_key fields key h ▸ In (One event)) (of_key fields key h))
          ≡ times_ended idle others fork.key h
      step true same = same
      step false same = same
  times_same (h ▸ In (Many es)) = times_same h

  -- an event of the fork's key goes to the same fork of it
  pub target_same : (event : Event) (h : History) → same_key (event_key event others) fork.key ≡ true
      → fork_of idle others event (of_key fields key h) ≡ fork_of idle others event h
  target_same event h e =
      let is = key_is (event_key event others) fork.key e in
      ap (λ (number : ℕ). the_fork (event_key event others) number)
      (ap (λ (k : List Value). times_ended idle others k (of_key fields key h)) is ∙ times_same h
      ∙ sym (ap (λ (k : List Value). times_ended idle others k h) is))

  pub events_same : (h : History) → of_fork idle others fork (of_key fields key h) ≡ of_fork idle others fork h
  events_same (since start) = refl
  events_same (h ▸ Tick) = ap (λ g. g ▸ Tick) (events_same h)
  events_same (h ▸ In (One event)) =
      step (same_key (event_key event others) fork.key) refl (event_has fields key event) refl (events_same h)
    where
      step : (s : Bool) → same_key (event_key event others) fork.key ≡ s → (t : Bool) → event_has fields key event ≡ t →
          of_fork idle others fork (of_key fields key h) ≡ of_fork idle others fork h →
          of_fork idle others fork (cond t (of_key fields key h ▸ In (One event)) (of_key fields key h))
          ≡ cond (same_fork (fork_of idle others event h) fork) (of_fork idle others fork h ▸ In (One event))
          (of_fork idle others fork h)
      step true e true f same =
          ap
          (λ (k : KeyFork). cond (same_fork k fork) (of_fork idle others fork (of_key fields key h) ▸ In (One event))
          (of_fork idle others fork (of_key fields key h)))
          (target_same event h e)
          ∙ ap (λ g. cond (same_fork (fork_of idle others event h) fork) (g ▸ In (One event)) g) same
      step true e false f same = absurd (true≢false (sym (of event e) ∙ f))
      step false e true f same =
          ap
          (λ t. cond t (of_fork idle others fork (of_key fields key h) ▸ In (One event))
          (of_fork idle others fork (of_key fields key h)))
          (other_key idle others event (of_key fields key h) fork e)
          ∙ same
          ∙ sym (ap (λ t. cond t (of_fork idle others fork h ▸ In (One event)) (of_fork idle others fork h))
          (other_key idle others event h fork e))
      step false e false f same =
          same
          ∙ sym (ap (λ t. cond t (of_fork idle others fork h ▸ In (One event)) (of_fork idle others fork h))
          (other_key idle others event h fork e))
  events_same (h ▸ In (Many es)) = events_same h

  pub history_same : (h : History)
      → fork_history idle others fork (of_key fields key h) ≡ fork_history idle others fork h
  history_same h =
      fork_events idle others fork (of_key fields key h) ∙ events_same h ∙ sym (fork_events idle others fork h)
