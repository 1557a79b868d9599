-- What a `rollup` keeps at an entry.
use Rattle.std.proofs.Common.{◌≡◌, ℕ, zero, suc, ◌+◌, ◌-◌, ◌^◌, ◌<◌, ◌≤◌, ◌==◌, inl, inr, nat_lt, Bool, true, false}
use Rattle.std.proofs.Common.{cond, List, [], ◌∷◌, ◌++◌, length, drop, Some, refl, sym, ap, subst, ◌∙◌, arith}
use Rattle.std.proofs.lemmas.Bool.{eq-eqb}
use Rattle.std.proofs.lemmas.Bool.Decides.{nat_tests}
use Rattle.std.proofs.lemmas.List.{length_push, length-drop, drop_all, drop-append-le, nil_from_length}
use Rattle.ev_types.specs.declared.event.Event.{Event}
use Rattle.ev_types.specs.declared.item.Item.TheVariants.{One}
use Rattle.stream_meaning.specs.declared.entry.Entry.TheVariants.{Tick, Item as In}
use Rattle.stream_meaning.specs.History.{History, ◌▸◌, begun, moment_of, window_of, TicksAlone}
use Rattle.stream_meaning.specs.Came.{events_in, vector}
use Rattle.stream_meaning.specs.Deadlines.{next_window, next_deadline, some_if}
use Rattle.stream_meaning.specs.Rates.{events_now, count_in, rolls_into, allowed, one_if}
use Rattle.stream_meaning.proofs.WindowLaws.{no_later_events, next_at, rolls_into-tick}
use Rattle.rate_streams.specs.declared.rollup.RollupState.{RollupState}
use Rattle.rate_streams.specs.Rollup.{rollup_kind, rollup_passes, is_rollup_due, room_in, calls_now, RollupRepresents}
use Rattle.rate_streams.specs.Windows.{number_at, end_at}
use Rattle.rate_streams.proofs.WindowEvents.{alone_events, number_now, now_more, tick_ways, end_bound, end_now}
use Rattle.rate_streams.proofs.WindowEvents.{vector_some, by_test, due_parts, not_due}

one_if-≤ : (t : Bool) (n : ℕ) → 0 < n → one_if t ≤ n
one_if-≤ true n positive = omega arith
one_if-≤ false n positive = omega arith

none_rolls : (n : ℕ) (t : Bool) (came : ℕ) → came ≡ 0 → t ≡ false → nat_lt n (came + one_if t) ≡ false
none_rolls n true came e f = absurd (cc)
none_rolls n false came e f = grind (arith, nat_tests)

alone_rolls : (n secs window : ℕ) (h : History) → TicksAlone h → rolls_into n secs window h ≡ false
alone_rolls n secs zero h alone = refl
alone_rolls n secs (suc window) h alone =
    none_rolls n (rolls_into n secs window h) (count_in secs window h) (ap length (alone_events secs window h alone))
    (alone_rolls n secs window h alone)

-- an event of the present window changes nothing of what was rolled up into it
rolls_item : (n secs : ℕ) (h : History) (event : Event) (window : ℕ) → window ≤ window_of secs h
    → rolls_into n secs window (h ▸ In (One event)) ≡ rolls_into n secs window h
rolls_item n secs h event zero up = refl
rolls_item n secs h event (suc window) up =
    let apart : (window_of secs h == window) ≡ false = grind_apart (window_of secs h) window (omega arith) in
    ap
    (λ t. nat_lt n (length (cond t (events_in secs window h ++ event ∷ []) (events_in secs window h))
    + one_if (rolls_into n secs window (h ▸ In (One event)))))
    apart
    ∙ ap (λ r. nat_lt n (count_in secs window h + one_if r)) (rolls_item n secs h event window (omega arith))
  where
    grind_apart : (a b : ℕ) → b < a → (a == b) ≡ false
    grind_apart a b later = grind (arith, nat_tests)

pub fresh_represents : (state : RollupState) (h : History) → state.poisoned ≡ false → 0 < state.count
    → state.windows.start ≡ begun h → state.window ≡ 0 → state.room ≡ state.count → state.waiting ≡ [] → TicksAlone h
    → RollupRepresents state h
fresh_represents state h sound positive start window room nothing alone =
    let n : ℕ = state.count in
    let secs : ℕ = state.windows.secs in
    let w : ℕ = window_of secs h in
    let none : events_now secs h ≡ [] = alone_events secs w h alone in
    let no_roll : rolls_into n secs w h ≡ false = alone_rolls n secs w h alone in
    let no_calls : calls_now n secs h ≡ 0 =
    ap (λ es. length es + one_if (rolls_into n secs w h)) none ∙ ap (λ t. 0 + one_if t) no_roll in
    record {
      sound = sound;
      positive = positive;
      start = start;
      reached = omega arith;
      room = all_room (w == state.window) state.room n (calls_now n secs h) room no_calls;
      waiting =
          nothing ∙ sym (drop_all (allowed n secs w h) (events_now secs h) (let empty = ap length none in omega arith));
      window = λ some. let empty = ap length nothing in absurd (omega arith);
    }
  where
    all_room : (t : Bool) (room n calls : ℕ) → room ≡ n → calls ≡ 0 → cond t room n ≡ n - calls
    all_room true room n calls e f = omega arith
    all_room false room n calls e f = omega arith

-- of the events after those that may pass one by one, with one more
kept_step : (passes : Bool) (n o : ℕ) (es : List Event) (event : Event) → o ≤ n → passes ≡ nat_lt (length es + o) n →
    cond passes (drop (n - o) es) (drop (n - o) es ++ event ∷ []) ≡ drop (n - o) (es ++ event ∷ [])
kept_step true n o es event least is =
    let below : length es + o < n = grind (arith, nat_tests) in
    let longer = length_push es event in
    drop_all (n - o) es (omega arith) ∙ sym (drop_all (n - o) (es ++ event ∷ []) (omega arith))
kept_step false n o es event least is =
    let full : n ≤ length es + o = grind (arith, nat_tests) in
    sym (drop-append-le (n - o) es (event ∷ []) (omega arith))

some_room : (n calls : ℕ) → nat_lt 0 (n - calls) ≡ nat_lt calls n
some_room n calls = grind (arith, nat_tests)

less_room : (t : Bool) (n calls : ℕ) → t ≡ nat_lt calls n → n - calls - one_if t ≡ n - (calls + 1)
less_room true n calls is = omega arith
less_room false n calls is = let full : n ≤ calls = grind (arith, nat_tests) in omega arith

-- an event comes
module _ (old : RollupState) (h : History) (event : Event) (now : ℕ) (before : RollupRepresents old h)
    (moment : moment_of h ≡ now) where
  abbrev n : ℕ
  n = old.count

  abbrev secs : ℕ
  secs = old.windows.secs

  abbrev w : ℕ
  w = window_of secs h

  abbrev o : ℕ
  o = one_if (rolls_into n secs w h)

  abbrev es : List Event
  es = events_now secs h

  here : number_at old.windows now ≡ w
  here = number_now old.windows h now before.start moment

  room_here : room_in old (number_at old.windows now) ≡ n - (length es + o)
  room_here = ap (room_in old) here ∙ before.room

  passes_is : (passes : Bool) → passes ≡ nat_lt 0 (room_in old (number_at old.windows now))
      → passes ≡ nat_lt (length es + o) n
  passes_is passes test = test ∙ ap (nat_lt 0) room_here ∙ some_room n (length es + o)

  pub item_passes : (passes : Bool) → passes ≡ nat_lt 0 (room_in old (number_at old.windows now))
      → cond passes (vector (event ∷ [])) [] ≡ rollup_passes old (h ▸ In (One event))
  item_passes passes test = ap (λ t. cond t (vector (event ∷ [])) []) (passes_is passes test)

  same_rolls : rolls_into n secs w (h ▸ In (One event)) ≡ rolls_into n secs w h
  same_rolls = rolls_item n secs h event w (omega arith)

  one_call_more : calls_now n secs (h ▸ In (One event)) ≡ length es + o + 1
  one_call_more =
      ap (λ l. length l + one_if (rolls_into n secs w (h ▸ In (One event)))) (now_more secs h event)
      ∙ ap (λ t. length (es ++ event ∷ []) + one_if t) same_rolls
      ∙ (let longer = length_push es event in
      let sum : length (es ++ event ∷ []) + o ≡ length es + o + 1 = omega arith in
      sum)

  pub item_represents : (passes : Bool) → passes ≡ nat_lt 0 (room_in old (number_at old.windows now)) →
      RollupRepresents (record old {
        window = number_at old.windows now;
        room = room_in old (number_at old.windows now) - one_if passes;
        waiting = cond passes old.waiting (old.waiting ++ event ∷ []);
        poisoned = false;
      }) (h ▸ In (One event))
  item_represents passes test = record {
    sound = refl;
    positive = before.positive;
    start = before.start;
    reached = let is = here in omega arith;
    room =
        ap (λ t. cond t (room_in old (number_at old.windows now) - one_if passes) n)
        (eq-eqb w (number_at old.windows now) (sym here))
        ∙ ap (λ m. m - one_if passes) room_here ∙ less_room passes n (length es + o) (passes_is passes test)
        ∙ ap (λ m. n - m) (sym one_call_more);
    waiting =
        ap (λ l. cond passes l (l ++ event ∷ [])) before.waiting
        ∙ kept_step passes n o es event (one_if-≤ (rolls_into n secs w h) n before.positive) (passes_is passes test)
        ∙ sym (ap (λ t. drop (n - one_if t) (events_now secs (h ▸ In (One event)))) same_rolls
        ∙ ap (drop (n - o)) (now_more secs h event));
    window = λ some. here;
  }

-- where none waits, none is rolled up
idle_rolls : (n o : ℕ) (es : List Event) → o ≤ n → drop (n - o) es ≡ [] → nat_lt n (length es + o) ≡ false
idle_rolls n o es least none =
    let left : length es - (n - o) ≡ 0 = sym (length-drop (n - o) es) ∙ ap length none in
    grind (arith, nat_tests)

loud_rolls : (n o : ℕ) (es : List Event) → o ≤ n → 0 < length (drop (n - o) es) → nat_lt n (length es + o) ≡ true
loud_rolls n o es least some =
    let left : length (drop (n - o) es) ≡ length es - (n - o) = length-drop (n - o) es in
    grind (arith, nat_tests)

either_vector : (t : Bool) (es : List Event) → (t ≡ false → es ≡ []) → cond t (vector es) [] ≡ vector es
either_vector true events none = refl
either_vector false events none = sym (ap vector (none refl))

-- a tick comes
module _ (old : RollupState) (h : History) (now : ℕ) (before : RollupRepresents old h)
    (moment : moment_of h + 1 ≡ now) where
  abbrev count : ℕ
  count = old.count

  abbrev seconds : ℕ
  seconds = old.windows.secs

  abbrev here_at : ℕ
  here_at = window_of seconds h

  abbrev next : ℕ
  next = window_of seconds (h ▸ Tick)

  abbrev rolled : Bool
  rolled = rolls_into count seconds here_at h

  abbrev came : List Event
  came = events_now seconds h

  ahead : number_at old.windows now ≡ next
  ahead = number_now old.windows (h ▸ Tick) now before.start moment

  least : one_if rolled ≤ count
  least = one_if-≤ rolled count before.positive

  -- the calls of a window, in which the tick changes nothing
  abbrev calls_at : ℕ → ℕ
  calls_at window = length (events_in seconds window h) + one_if (rolls_into count seconds window h)

  calls_next : calls_now count seconds (h ▸ Tick) ≡ calls_at next
  calls_next = ap (λ t. length (events_in seconds next h) + one_if t) (rolls_into-tick count seconds next h)

  waiting_next : drop (allowed count seconds next (h ▸ Tick)) (events_now seconds (h ▸ Tick))
      ≡ drop (count - one_if (rolls_into count seconds next h)) (events_in seconds next h)
  waiting_next = ap (λ t. drop (count - one_if t) (events_in seconds next h)) (rolls_into-tick count seconds next h)

  passes_later : here_at < next → rollup_passes old (h ▸ Tick) ≡ vector old.waiting
  passes_later later =
      ap
      (λ t. cond t [] (cond (rolls_into count seconds (suc here_at) h) (vector (drop (count - one_if rolled) came)) []))
      (let apart : (next == here_at) ≡ false = grind (arith, nat_tests) in apart)
      ∙ either_vector (rolls_into count seconds (suc here_at) h) (drop (count - one_if rolled) came) quiet
      ∙ ap vector (sym before.waiting)
    where
      quiet : nat_lt count (length came + one_if rolled) ≡ false → drop (count - one_if rolled) came ≡ []
      quiet none =
          drop_all (count - one_if rolled) came
          (let below : length came + one_if rolled ≤ count = grind (arith, nat_tests) in omega arith)

  represents_same : next ≡ here_at → RollupRepresents old (h ▸ Tick)
  represents_same same = record {
    sound = before.sound;
    positive = before.positive;
    start = before.start;
    reached = let up = before.reached in omega arith;
    room =
        ap (room_in old) same ∙ before.room ∙ ap (λ v. count - calls_at v) (sym same)
        ∙ ap (λ m. count - m) (sym calls_next);
    waiting =
        before.waiting
        ∙ ap (λ v. drop (count - one_if (rolls_into count seconds v h)) (events_in seconds v h)) (sym same)
        ∙ sym waiting_next;
    window = λ some. before.window some ∙ sym same;
  }

  -- the window that begins is the one after the present
  one_later : here_at < next → next ≡ suc here_at
  one_later later =
      step (moment_of h + 1 == next_window seconds h) next here_at (next_at seconds h old.windows.positive) later
    where
      step : (t : Bool) (a b : ℕ) → a ≡ cond t (b + 1) b → b < a → a ≡ suc b
      step true a b e l = omega arith
      step false a b e l = absurd (omega arith)

  nothing_later : here_at < next → events_in seconds next h ≡ []
  nothing_later later = no_later_events seconds next h old.windows.positive later

  rolls_later : here_at < next → (t : Bool) → nat_lt count (length came + one_if rolled) ≡ t → calls_at next ≡ one_if t
  rolls_later later t is =
      ap (λ es. length es + one_if (rolls_into count seconds next h)) (nothing_later later)
      ∙ ap (λ v. 0 + one_if (rolls_into count seconds v h)) (one_later later) ∙ ap (λ r. 0 + one_if r) is
      ∙ plus (one_if t)
    where
      plus : (m : ℕ) → 0 + m ≡ m
      plus m = omega arith

  no_more_waiting : here_at < next → drop (allowed count seconds next (h ▸ Tick)) (events_now seconds (h ▸ Tick)) ≡ []
  no_more_waiting later =
      drop_all (allowed count seconds next (h ▸ Tick)) (events_now seconds (h ▸ Tick))
      (let empty = ap length (nothing_later later) in omega arith)

  none_waits : is_rollup_due old now ≡ false → here_at < next → old.waiting ≡ []
  none_waits idle later =
      nil_from_length old.waiting
      (none (length old.waiting) (number_at old.windows now) old.window here_at next
      (not_due (length old.waiting) (number_at old.windows now) old.window idle) before.window ahead later)
    where
      none : (n number window w w' : ℕ) → (0 < n → number ≡ window) → (0 < n → window ≡ w) → number ≡ w' → w < w'
          → n ≡ 0
      none zero number window w w' still here there later = refl
      none (suc n) number window w w' still here there later =
          absurd (let a = still (omega arith) in let b = here (omega arith) in omega arith)

  represents_idle : old.waiting ≡ [] → here_at < next → RollupRepresents old (h ▸ Tick)
  represents_idle nothing later =
      let up = before.reached in
      let quiet : nat_lt count (length came + one_if rolled) ≡ false =
      idle_rolls count (one_if rolled) came least (sym before.waiting ∙ nothing) in
      let apart : (next == old.window) ≡ false = ne_later next old.window (omega arith) in
      record {
        sound = before.sound;
        positive = before.positive;
        start = before.start;
        reached = omega arith;
        room =
            ap (λ t. cond t old.room count) apart ∙ sub_none count
            ∙ ap (λ m. count - m) (sym (calls_next ∙ rolls_later later false quiet));
        waiting = nothing ∙ sym (no_more_waiting later);
        window = λ some. let empty = ap length nothing in absurd (omega arith);
      }
    where
      ne_later : (a b : ℕ) → b < a → (a == b) ≡ false
      ne_later a b l = grind (arith, nat_tests)

      sub_none : (m : ℕ) → m ≡ m - 0
      sub_none m = omega arith

  pub quiet_represents : is_rollup_due old now ≡ false → RollupRepresents old (h ▸ Tick)
  quiet_represents idle = elim (tick_ways old.windows h) [
    | inl same ↦ represents_same same
    | inr later ↦ represents_idle (none_waits idle later) later
  ]

  turns : is_rollup_due old now ≡ true → here_at < next
  turns due =
      let parts = due_parts (length old.waiting) (number_at old.windows now) old.window due in
      elim (tick_ways old.windows h) [
        | inl same ↦ absurd (parts.1 (ahead ∙ same ∙ sym (before.window parts.0)))
        | inr later ↦ later
      ]

  due_passes : is_rollup_due old now ≡ true → rollup_passes old (h ▸ Tick) ≡ vector old.waiting
  due_passes due = passes_later (turns due)

  pub due_represents : is_rollup_due old now ≡ true
      → RollupRepresents
      (record old { window = number_at old.windows now; room = old.count - 1; waiting = []; poisoned = false })
      (h ▸ Tick)
  due_represents due =
      let later : here_at < next = turns due in
      let some : 0 < length old.waiting =
      (due_parts (length old.waiting) (number_at old.windows now) old.window due).0 in
      let loud : nat_lt count (length came + one_if rolled) ≡ true =
      loud_rolls count (one_if rolled) came least (subst (λ (es : List Event). 0 < length es) before.waiting some) in
      record {
        sound = refl;
        positive = before.positive;
        start = before.start;
        reached = let is = ahead in omega arith;
        room =
            ap (λ t. cond t (count - 1) count) (eq-eqb next (number_at old.windows now) (sym ahead))
            ∙ ap (λ m. count - m) (sym (calls_next ∙ rolls_later later true loud));
        waiting = sym (no_more_waiting later);
        window = λ some. absurd (omega arith);
      }

  due_loud : is_rollup_due old now ≡ true → rollup_passes old (h ▸ Tick) ≡ [] → ⊥
  due_loud due none =
      vector_some old.waiting (due_parts (length old.waiting) (number_at old.windows now) old.window due).0
      (sym (due_passes due) ∙ none)

pub still_represents : (state : RollupState) (h : History) → RollupRepresents state h
    → rollup_passes state (h ▸ Tick) ≡ [] → RollupRepresents state (h ▸ Tick)
still_represents state h before none =
    by_test (is_rollup_due state (moment_of h + 1)) (RollupRepresents state (h ▸ Tick))
    (λ due. absurd (due_loud state h (moment_of h + 1) before refl due none))
    (λ idle. quiet_represents state h (moment_of h + 1) before refl idle)

pub due_at : (state : RollupState) (h : History) (due : ℕ) → RollupRepresents state h → moment_of h ≤ 2 ^ 40 →
    0 < length state.waiting →
    (end_at state.windows state.window < 2 ^ 64 → due ≡ end_at state.windows state.window) →
    Some due ≡ next_deadline (rollup_kind state) h
due_at state h due before bound some is =
    let here = before.window some in
    let rolled : Bool = rolls_into state.count state.windows.secs (window_of state.windows.secs h) h in
    let loud : nat_lt state.count (calls_now state.count state.windows.secs h) ≡ true =
    loud_rolls state.count (one_if rolled) (events_now state.windows.secs h)
    (one_if-≤ rolled state.count before.positive) (subst (λ (es : List Event). 0 < length es) before.waiting some) in
    ap (λ (m : ℕ). Some m)
    (is (end_bound state.windows h state.window before.start here bound)
    ∙ end_now state.windows h state.window before.start here)
    ∙ sym (ap (λ t. some_if t (next_window state.windows.secs h)) loud)
