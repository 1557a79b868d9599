-- What a change of events and due moments keeps: at each moment exactly the events that are late are due.
use Rattle.std.proofs.Common.{◌≡◌, ℕ, ◌≤◌, ◌^◌, Bool, true, false, cond, eqb, List, Option, refl, sym, ap, ◌∙◌}
use Rattle.std.proofs.lemmas.Bool.{eqb-true, eqb-false}
use Rattle.ev_types.specs.declared.event.Event.{Event}
use Rattle.linked_slots.specs.Table.{value_at, Changes}
use Rattle.tick_schedule.specs.Queue.{moment_at, Sets}
use Rattle.live_index.specs.Slots.{is_by, is_late_in, IsTimed}

-- a number has another slot and another moment now
pub timed-set : (table table' : List (Option Event)) (due due' : List (ℕ × ℕ)) (n : ℕ) (slot : Option Event)
    (moment : Option ℕ)
    → IsTimed table due → Changes table table' n slot → Sets due due' n moment
    → ((now : ℕ) → now ≤ 2 ^ 40 → is_by now moment ≡ is_late_in now slot) → IsTimed table' due'
timed-set table table' due due' n slot moment timed changes sets there number now h = timed_by (eqb number n) refl
  where
    timed_by : (b : Bool) → eqb number n ≡ b
        → is_by now (moment_at number due') ≡ is_late_in now (value_at table' number)
    timed_by true is =
        ap (is_by now) (sets number ∙ ap (λ b. cond b moment (moment_at number due)) is) ∙ there now h
        ∙ sym (ap (is_late_in now) (ap (value_at table') (eqb-true number n is) ∙ changes.changed))
    timed_by false apart =
        ap (is_by now) (sets number ∙ ap (λ b. cond b moment (moment_at number due)) apart) ∙ timed number now h
        ∙ sym (ap (is_late_in now) (changes.others number (eqb-false number n apart)))
