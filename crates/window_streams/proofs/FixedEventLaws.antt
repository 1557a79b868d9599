-- Whole vectors of events, and the events that are left.
use Rattle.std.proofs.Common.{◌≡◌, ℕ, ◌+◌, ◌-◌, ◌*◌, ◌/◌, ◌%◌, ◌<◌, ◌≤◌, ◌==◌, ◌⊎◌, inl, inr, Bool, true, false, cond}
use Rattle.std.proofs.Common.{List, [], ◌∷◌, ◌++◌, length, drop, nat_le, refl, sym, ap, subst, ◌∙◌, arith, append_assoc}
use Rattle.std.proofs.Common.{length-append}
use Rattle.std.proofs.Math.Nat.{zero-mod}
use Rattle.std.proofs.Math.Seq.{drop-append_seam}
use Rattle.std.proofs.lemmas.List.{append-nil}
use Rattle.std.proofs.lemmas.Nat.{div-add-mod', mod-mul-add}
use Rattle.std.proofs.lemmas.Bool.Decides.{nat_tests}
use Rattle.ev_types.specs.declared.event.Event.{Event}
use Rattle.ev_types.specs.declared.item.Item.TheVariants.{One}
use Rattle.stream_meaning.specs.Came.{events, vector, last_of}
use Rattle.stream_meaning.specs.declared.entry.Entry.TheVariants.{Item as In}
use Rattle.stream_meaning.specs.History.{History, ◌▸◌, TicksAlone}
use Rattle.stream_meaning.specs.Windows.{fixed_event_items}
use Rattle.window_streams.specs.FixedEvent.{FixedEventRepresents}
use Rattle.window_streams.specs.declared.fixed_event.FixedEventState.{FixedEventState}
use Rattle.window_streams.proofs.TickedLaws.{events-ticks}

-- so many more than whole vectors are left over
rest : (whole n k : ℕ) → whole % n ≡ 0 → k < n → (whole + k) % n ≡ k
rest whole n k none less =
    let parts = div-add-mod' whole n in
    let times : whole ≡ whole / n * n = omega arith in
    subst (λ (w : ℕ). (w + k) % n ≡ k) (sym times) (mod-mul-add (whole / n) n k less)

full : (whole n : ℕ) → whole % n ≡ 0 → 0 < n → (whole + n) % n ≡ 0
full whole n none positive =
    let parts = div-add-mod' whole n in
    let times : (whole / n + 1) * n + 0 ≡ whole + n = omega arith in
    subst (λ (w : ℕ). w % n ≡ 0) times (mod-mul-add (whole / n + 1) n 0 positive)

-- what comes after whole vectors is the last of all
last_after : (passed more : List Event) (n : ℕ) → length more ≡ n → last_of n (passed ++ more) ≡ more
last_after passed more n e =
    let count : length (passed ++ more) - n ≡ length passed = omega (arith, length-append passed more) in
    ap (λ k. drop k (passed ++ more)) count ∙ drop-append_seam passed more

items_by : (n : ℕ) (passed more : List Event) (u t : Bool) → (length (passed ++ more) % n == 0) ≡ t →
    nat_le n (length more) ≡ t →
    (t ≡ true → length more ≡ n) →
    cond (length (passed ++ more) % n == 0) (vector (last_of n (passed ++ more))) []
    ≡ cond (nat_le n (length more)) (vector more) []
items_by n passed more u true e f count =
    ap (λ t. cond t (vector (last_of n (passed ++ more))) []) e ∙ ap vector (last_after passed more n (count refl))
    ∙ sym (ap (λ t. cond t (vector more) []) f)
items_by n passed more u false e f count =
    ap (λ t. cond t (vector (last_of n (passed ++ more))) []) e ∙ sym (ap (λ t. cond t (vector more) []) f)

-- a vector is passed on exactly where enough events wait
sent : (n : ℕ) (passed more : List Event) → length passed % n ≡ 0 → 0 < length more → length more ≤ n →
    cond (length (passed ++ more) % n == 0) (vector (last_of n (passed ++ more))) []
    ≡ cond (nat_le n (length more)) (vector more) []
sent n passed more whole some few =
    let way : (length more < n) ⊎ (length more ≡ n) = grind arith in
    elim way [ inl h ↦ by_fewer h | inr h ↦ by_all h ]
  where
    by_fewer : length more < n
        → cond (length (passed ++ more) % n == 0) (vector (last_of n (passed ++ more))) []
        ≡ cond (nat_le n (length more)) (vector more) []
    by_fewer h =
        let left : length (passed ++ more) % n ≡ length more =
        ap (λ k. k % n) (length-append passed more) ∙ rest (length passed) n (length more) whole h in
        items_by n passed more false false (grind (arith, nat_tests)) (grind (arith, nat_tests)) (λ e. grind arith)

    by_all : length more ≡ n
        → cond (length (passed ++ more) % n == 0) (vector (last_of n (passed ++ more))) []
        ≡ cond (nat_le n (length more)) (vector more) []
    by_all h =
        let left : length (passed ++ more) % n ≡ 0 =
        ap (λ k. k % n) (length-append passed more ∙ ap (λ k. length passed + k) h)
        ∙ full (length passed) n whole (omega arith) in
        items_by n passed more false true (grind (arith, nat_tests)) (grind (arith, nat_tests)) (λ e. h)

pub fixed_event-emits : (state : FixedEventState) (event : Event) (h : History) → FixedEventRepresents state h →
    fixed_event_items state.count (h ▸ In (One event))
    ≡ (cond (nat_le state.count (length (state.waiting ++ event ∷ []))) (vector (state.waiting ++ event ∷ [])) [])
fixed_event-emits state event h represents =
    let n = state.count in
    let more = state.waiting ++ event ∷ [] in
    let all : events h ++ event ∷ [] ≡ represents.passed ++ more =
    ap (λ es. es ++ event ∷ []) represents.waiting ∙ append_assoc represents.passed state.waiting (event ∷ []) in
    let size = length-append state.waiting (event ∷ []) in
    let short = represents.short in
    ap (λ (es : List Event). cond (length es % n == 0) (vector (last_of n es)) []) all
    ∙ sent n represents.passed more represents.whole (omega arith) (omega arith)

by_test : (t : Bool) (n : ℕ) (passed more : List Event) (state : FixedEventState) (h : History) → state.count ≡ n →
    nat_le n (length more) ≡ t → state.poisoned ≡ false → state.waiting ≡ cond t [] more →
    length passed % n ≡ 0 → length more ≤ n → 0 < n → events h ≡ passed ++ more → FixedEventRepresents state h
by_test true n passed more state h count test sound waiting whole few positive all = record {
  sound = sound;
  passed = passed ++ more;
  whole =
      rw count (ap (λ k. k % n)
      (length-append passed more
      ∙ ap (λ k. length passed + k) (let e : length more ≡ n = grind (arith, nat_tests) in e))
      ∙ full (length passed) n whole positive);
  waiting = all ∙ sym (ap (λ es. (passed ++ more) ++ es) waiting ∙ append-nil (passed ++ more));
  short = rw (waiting, count) positive;
}
by_test false n passed more state h count test sound waiting whole few positive all = record {
  sound = sound;
  passed = passed;
  whole = rw count whole;
  waiting = all ∙ ap (λ es. passed ++ es) (sym waiting);
  short = rw (waiting, count) (grind (arith, nat_tests));
}

pub fixed_event-represents : (old new : FixedEventState) (event : Event) (h : History) → FixedEventRepresents old h →
    new.count ≡ old.count → new.poisoned ≡ false →
    new.waiting ≡ cond (nat_le old.count (length (old.waiting ++ event ∷ []))) [] (old.waiting ++ event ∷ []) →
    FixedEventRepresents new (h ▸ In (One event))
fixed_event-represents old new event h represents count sound waiting =
    let more = old.waiting ++ event ∷ [] in
    let all : events h ++ event ∷ [] ≡ represents.passed ++ more =
    ap (λ es. es ++ event ∷ []) represents.waiting ∙ append_assoc represents.passed old.waiting (event ∷ []) in
    let size = length-append old.waiting (event ∷ []) in
    let short = represents.short in
    by_test (nat_le old.count (length more)) old.count represents.passed more new (h ▸ In (One event)) count refl sound
    waiting represents.whole (omega arith) (omega arith) all

pub fixed_event-fresh : (state : FixedEventState) (h : History) → TicksAlone h → 0 < state.count
    → state.poisoned ≡ false → state.waiting ≡ [] → FixedEventRepresents state h
fixed_event-fresh state h alone positive sound waiting = record {
  sound = sound;
  passed = [];
  whole = zero-mod state.count;
  waiting = events-ticks h alone ∙ sym waiting;
  short = rw waiting positive;
}
