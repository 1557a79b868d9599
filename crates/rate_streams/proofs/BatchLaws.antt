-- What a `batch` keeps at an entry.
use Rattle.std.proofs.Common.{◌≡◌, ℕ, zero, suc, ◌+◌, ◌-◌, ◌*◌, ◌/◌, ◌%◌, ◌^◌, ◌<◌, ◌≤◌, ◌==◌, ◌⊎◌, inl, inr, nat_le}
use Rattle.std.proofs.Common.{Bool, true, false, not, cond, List, [], ◌∷◌, ◌++◌, length, drop, Some, refl, sym, ap}
use Rattle.std.proofs.Common.{subst, ◌∙◌, arith}
use Rattle.std.proofs.Math.Nat.{div-eq_of_lt-le, mod-lt, mod-le}
use Rattle.std.proofs.lemmas.Nat.{div-add-mod'}
use Rattle.std.proofs.lemmas.Bool.Decides.{nat_tests}
use Rattle.std.proofs.lemmas.List.{length_push, length-drop, drop_all, drop-append-le, nil_from_length}
use Rattle.ev_types.specs.declared.event.Event.{Event}
use Rattle.ev_types.specs.declared.item.Item.TheVariants.{One}
use Rattle.stream_meaning.specs.declared.entry.Entry.TheVariants.{Tick, Item as In}
use Rattle.stream_meaning.specs.History.{History, ◌▸◌, begun, moment_of, window_of, TicksAlone}
use Rattle.stream_meaning.specs.Came.{events_in, vector, last_of}
use Rattle.stream_meaning.specs.Deadlines.{next_window, next_deadline, some_if}
use Rattle.stream_meaning.specs.Rates.{events_now}
use Rattle.stream_meaning.proofs.WindowLaws.{no_later_events}
use Rattle.stream_meaning.proofs.MomentLaws.{eq-zero, ne-zero}
use Rattle.rate_streams.specs.declared.batch.BatchState.{BatchState}
use Rattle.rate_streams.specs.Batch.{batch_kind, batch_passes, is_batch_due, BatchRepresents}
use Rattle.rate_streams.specs.Windows.{number_at, end_at}
use Rattle.rate_streams.proofs.WindowEvents.{alone_events, number_now, now_more, tick_ways, end_bound, end_now}
use Rattle.rate_streams.proofs.WindowEvents.{vector_some, by_test, due_parts, not_due}

rest_more : (m n : ℕ) → m % n + 1 < n → (m + 1) % n ≡ m % n + 1
rest_more m n below =
    let q : ℕ = m / n in
    let is = div-add-mod' m n in
    let quotient : (m + 1) / n ≡ q = div-eq_of_lt-le n (omega arith) (omega arith) in
    let parts = div-add-mod' (m + 1) n in
    let times : (m + 1) / n * n ≡ q * n = ap (λ k. k * n) quotient in
    omega arith

rest_full : (m n : ℕ) → m % n + 1 ≡ n → (m + 1) % n ≡ 0
rest_full m n full =
    let q : ℕ = m / n in
    let is = div-add-mod' m n in
    let quotient : (m + 1) / n ≡ q + 1 = div-eq_of_lt-le n (omega arith) (omega arith) in
    let parts = div-add-mod' (m + 1) n in
    let times : (m + 1) / n * n ≡ (q + 1) * n = ap (λ k. k * n) quotient in
    omega arith

last_more : (k : ℕ) (es : List Event) (event : Event) → k ≤ length es
    → last_of (k + 1) (es ++ event ∷ []) ≡ last_of k es ++ event ∷ []
last_more k es event within =
    let longer = length_push es event in
    let back : length (es ++ event ∷ []) - (k + 1) ≡ length es - k = omega arith in
    ap (λ m. drop m (es ++ event ∷ [])) back ∙ drop-append-le (length es - k) es (event ∷ []) (omega arith)

last_none : (k : ℕ) (es : List Event) → k ≡ 0 → last_of k es ≡ []
last_none k es none = drop_all (length es - k) es (omega arith)

last_nothing : (n : ℕ) (es : List Event) → es ≡ [] → last_of (length es % n) es ≡ []
last_nothing n es none = let empty = ap length none in drop_all (length es - length es % n) es (omega arith)

length_last : (k : ℕ) (es : List Event) → k ≤ length es → length (last_of k es) ≡ k
length_last k es within =
    length-drop (length es - k) es ∙ (let exact : length es - (length es - k) ≡ k = omega arith in exact)

-- one event more, after those that are in batches or wait
module _ (n : ℕ) (es : List Event) (event : Event) (positive : 0 < n) where
  abbrev waiting : List Event
  waiting = last_of (length es % n) es ++ event ∷ []

  size : length waiting ≡ length es % n + 1
  size =
      length_push (last_of (length es % n) es) event
      ∙ ap (λ m. m + 1) (length_last (length es % n) es (mod-le (length es) n))

  more : length (es ++ event ∷ []) ≡ length es + 1
  more = length_push es event

  ways : (length es % n + 1 ≡ n) ⊎ (length es % n + 1 < n)
  ways = let below = mod-lt (length es) positive in grind arith

  is_full : length es % n + 1 ≡ n → nat_le n (length waiting) ≡ true
  is_full full = let s = size in grind (arith, nat_tests)

  is_not_full : length es % n + 1 < n → nat_le n (length waiting) ≡ false
  is_not_full below = let s = size in grind (arith, nat_tests)

  last_full : length es % n + 1 ≡ n → last_of n (es ++ event ∷ []) ≡ waiting
  last_full full =
      ap (λ k. last_of k (es ++ event ∷ [])) (sym full) ∙ last_more (length es % n) es event (mod-le (length es) n)

  rest_after_full : length es % n + 1 ≡ n → length (es ++ event ∷ []) % n ≡ 0
  rest_after_full full = ap (λ m. m % n) more ∙ rest_full (length es) n full

  rest_after : length es % n + 1 < n → length (es ++ event ∷ []) % n ≡ length es % n + 1
  rest_after below = ap (λ m. m % n) more ∙ rest_more (length es) n below

  pub sends : cond (nat_le n (length waiting)) (vector waiting) []
      ≡ cond (length (es ++ event ∷ []) % n == 0) (vector (last_of n (es ++ event ∷ []))) []
  sends = elim ways [
    | inl full ↦ ap (λ t. cond t (vector waiting) []) (is_full full) ∙ ap vector (sym (last_full full))
        ∙ sym (ap (λ t. cond t (vector (last_of n (es ++ event ∷ []))) [])
        (eq-zero (length (es ++ event ∷ []) % n) (rest_after_full full)))
    | inr below ↦ ap (λ t. cond t (vector waiting) []) (is_not_full below)
        ∙ sym (ap (λ t. cond t (vector (last_of n (es ++ event ∷ []))) [])
        (ne-zero (length (es ++ event ∷ []) % n) (let after = rest_after below in omega arith)))
  ]

  pub keeps : cond (nat_le n (length waiting)) [] waiting ≡ last_of (length (es ++ event ∷ []) % n) (es ++ event ∷ [])
  keeps = elim ways [
    | inl full ↦
        ap (λ t. cond t [] waiting) (is_full full)
        ∙ sym (last_none (length (es ++ event ∷ []) % n) (es ++ event ∷ []) (rest_after_full full))
    | inr below ↦ ap (λ t. cond t [] waiting) (is_not_full below)
        ∙ sym (ap (λ k. last_of k (es ++ event ∷ [])) (rest_after below)
        ∙ last_more (length es % n) es event (mod-le (length es) n))
  ]

pub fresh_represents : (state : BatchState) (h : History) → state.poisoned ≡ false → 0 < state.count
    → state.windows.start ≡ begun h → state.waiting ≡ [] → TicksAlone h → BatchRepresents state h
fresh_represents state h sound positive start nothing alone = record {
  sound = sound;
  positive = positive;
  start = start;
  waiting =
      nothing
      ∙ sym (last_nothing state.count (events_now state.windows.secs h)
      (alone_events state.windows.secs (window_of state.windows.secs h) h alone));
  window = λ some. let none = ap length nothing in absurd (omega arith);
}

-- an event comes
module _ (old : BatchState) (h : History) (event : Event) (now : ℕ) (before : BatchRepresents old h)
    (moment : moment_of h ≡ now) where
  abbrev es : List Event
  es = events_now old.windows.secs h

  pushed_is : (pushed : List Event) → pushed ≡ old.waiting ++ event ∷ []
      → pushed ≡ last_of (length es % old.count) es ++ event ∷ []
  pushed_is pushed is = is ∙ ap (λ l. l ++ event ∷ []) before.waiting

  pub item_passes : (pushed : List Event) → pushed ≡ old.waiting ++ event ∷ [] →
      cond (nat_le old.count (length pushed)) (vector pushed) [] ≡ batch_passes old (h ▸ In (One event))
  item_passes pushed is =
      ap (λ l. cond (nat_le old.count (length l)) (vector l) []) (pushed_is pushed is)
      ∙ sends old.count es event before.positive

  pub item_represents : (pushed : List Event) (window : ℕ) → pushed ≡ old.waiting ++ event ∷ [] →
      window ≡ number_at old.windows now →
      BatchRepresents
      (record old { window = window; waiting = cond (nat_le old.count (length pushed)) [] pushed; poisoned = false })
      (h ▸ In (One event))
  item_represents pushed window is here = record {
    sound = refl;
    positive = before.positive;
    start = before.start;
    waiting =
        ap (λ l. cond (nat_le old.count (length l)) [] l) (pushed_is pushed is)
        ∙ keeps old.count es event before.positive
        ∙ sym (ap (λ l. last_of (length l % old.count) l) (now_more old.windows.secs h event));
    window = λ some. here ∙ number_now old.windows h now before.start moment;
  }

-- a tick comes
module _ (old : BatchState) (h : History) (now : ℕ) (before : BatchRepresents old h)
    (moment : moment_of h + 1 ≡ now) where
  abbrev secs : ℕ
  secs = old.windows.secs

  abbrev came : List Event
  came = events_now secs h

  ahead : number_at old.windows now ≡ window_of secs (h ▸ Tick)
  ahead = number_now old.windows (h ▸ Tick) now before.start moment

  passes_later : window_of secs h < window_of secs (h ▸ Tick) → batch_passes old (h ▸ Tick) ≡ vector old.waiting
  passes_later later =
      ap (λ t. cond t [] (vector (last_of (length came % old.count) came)))
      (let apart : (window_of secs (h ▸ Tick) == window_of secs h) ≡ false = grind (arith, nat_tests) in apart)
      ∙ ap vector (sym before.waiting)

  nothing_later : window_of secs h < window_of secs (h ▸ Tick)
      → last_of (length (events_now secs (h ▸ Tick)) % old.count) (events_now secs (h ▸ Tick)) ≡ []
  nothing_later later =
      last_nothing old.count (events_now secs (h ▸ Tick))
      (no_later_events secs (window_of secs (h ▸ Tick)) h old.windows.positive later)

  represents_same : window_of secs (h ▸ Tick) ≡ window_of secs h → BatchRepresents old (h ▸ Tick)
  represents_same same = record {
    sound = before.sound;
    positive = before.positive;
    start = before.start;
    waiting =
        before.waiting ∙ ap (λ w. last_of (length (events_in secs w h) % old.count) (events_in secs w h)) (sym same);
    window = λ some. before.window some ∙ sym same;
  }

  represents_later : (state : BatchState) → state ≡ record old { waiting = [] }
      → window_of secs h < window_of secs (h ▸ Tick) → BatchRepresents state (h ▸ Tick)
  represents_later state is later = subst (λ (s : BatchState). BatchRepresents s (h ▸ Tick)) (sym is) (record {
    sound = before.sound;
    positive = before.positive;
    start = before.start;
    waiting = sym (nothing_later later);
    window = λ some. absurd (omega arith);
  })

  none_waits : is_batch_due old now ≡ false → window_of secs h < window_of secs (h ▸ Tick) → old.waiting ≡ []
  none_waits idle later =
      let still : 0 < length old.waiting → number_at old.windows now ≡ old.window =
      not_due (length old.waiting) (number_at old.windows now) old.window idle in
      let here = before.window in
      let there = ahead in
      nil_from_length old.waiting
      (none (length old.waiting) (number_at old.windows now) old.window (window_of secs h) (window_of secs (h ▸ Tick))
      still here there later)
    where
      none : (n number window w w' : ℕ) → (0 < n → number ≡ window) → (0 < n → window ≡ w) → number ≡ w' → w < w'
          → n ≡ 0
      none zero number window w w' still here there later = refl
      none (suc n) number window w w' still here there later =
          absurd (let a = still (omega arith) in let b = here (omega arith) in omega arith)

  pub quiet_represents : is_batch_due old now ≡ false → BatchRepresents old (h ▸ Tick)
  quiet_represents idle = elim (tick_ways old.windows h) [
    | inl same ↦ represents_same same
    | inr later ↦
        represents_later old (ap (λ (l : List Event). record old { waiting = l }) (none_waits idle later)) later
  ]

  turns : is_batch_due old now ≡ true → window_of secs h < window_of secs (h ▸ Tick)
  turns due =
      let parts = due_parts (length old.waiting) (number_at old.windows now) old.window due in
      let here = before.window parts.0 in
      let there = ahead in
      elim (tick_ways old.windows h) [
        | inl same ↦ absurd (parts.1 (there ∙ same ∙ sym here))
        | inr later ↦ later
      ]

  due_passes : is_batch_due old now ≡ true → batch_passes old (h ▸ Tick) ≡ vector old.waiting
  due_passes due = passes_later (turns due)

  pub due_represents : is_batch_due old now ≡ true
      → BatchRepresents (record old { waiting = []; poisoned = false }) (h ▸ Tick)
  due_represents due =
      represents_later (record old { waiting = []; poisoned = false })
      (ap (λ (p : Bool). record old { waiting = []; poisoned = p }) (sym before.sound)) (turns due)

  due_loud : is_batch_due old now ≡ true → batch_passes old (h ▸ Tick) ≡ [] → ⊥
  due_loud due none =
      vector_some old.waiting (due_parts (length old.waiting) (number_at old.windows now) old.window due).0
      (sym (due_passes due) ∙ none)

pub still_represents : (state : BatchState) (h : History) → BatchRepresents state h → batch_passes state (h ▸ Tick) ≡ []
    → BatchRepresents state (h ▸ Tick)
still_represents state h before none =
    by_test (is_batch_due state (moment_of h + 1)) (BatchRepresents state (h ▸ Tick))
    (λ due. absurd (due_loud state h (moment_of h + 1) before refl due none))
    (λ idle. quiet_represents state h (moment_of h + 1) before refl idle)

pub due_at : (state : BatchState) (h : History) (due : ℕ) → BatchRepresents state h → moment_of h ≤ 2 ^ 40 →
    0 < length state.waiting →
    (end_at state.windows state.window < 2 ^ 64 → due ≡ end_at state.windows state.window) →
    Some due ≡ next_deadline (batch_kind state) h
due_at state h due before bound some is =
    let here = before.window some in
    let es : List Event = events_now state.windows.secs h in
    let rest : length es % state.count ≡ length state.waiting =
    sym (ap length before.waiting ∙ length_last (length es % state.count) es (mod-le (length es) state.count)) in
    let loud : (length es % state.count == 0) ≡ false = ne-zero (length es % state.count) (omega arith) in
    ap (λ (m : ℕ). Some m)
    (is (end_bound state.windows h state.window before.start here bound)
    ∙ end_now state.windows h state.window before.start here)
    ∙ sym (ap (λ t. some_if (not t) (next_window state.windows.secs h)) loud)
