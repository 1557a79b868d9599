-- What a `throttle` keeps at an entry.
use Rattle.std.proofs.Common.{◌≡◌, ℕ, ◌+◌, ◌<◌, ◌≤◌, ◌==◌, ◌⊎◌, inl, inr, min, nat_lt, Bool, true, false, cond, [], ◌∷◌}
use Rattle.std.proofs.Common.{◌++◌, length, refl, sym, ap, subst, ◌∙◌, arith}
use Rattle.std.proofs.lemmas.Bool.{eq-eqb}
use Rattle.std.proofs.lemmas.Bool.Decides.{nat_tests}
use Rattle.std.proofs.lemmas.List.{length_push}
use Rattle.ev_types.specs.declared.event.Event.{Event}
use Rattle.ev_types.specs.declared.item.Item.TheVariants.{One}
use Rattle.stream_meaning.specs.declared.entry.Entry.TheVariants.{Tick, Item as In}
use Rattle.stream_meaning.specs.History.{History, ◌▸◌, begun, moment_of, window_of, TicksAlone}
use Rattle.stream_meaning.specs.Came.{events_in, each}
use Rattle.stream_meaning.specs.Rates.{count_in, one_if}
use Rattle.stream_meaning.proofs.WindowLaws.{window-≤, no_later_events, ne-test}
use Rattle.rate_streams.specs.declared.throttle.ThrottleState.{ThrottleState}
use Rattle.rate_streams.specs.Throttle.{passed_in, throttle_passes, ThrottleRepresents}
use Rattle.rate_streams.specs.Windows.{number_at}
use Rattle.rate_streams.proofs.WindowEvents.{alone_events, number_now}

pub fresh_represents : (state : ThrottleState) (h : History) → state.poisoned ≡ false → state.windows.start ≡ begun h
    → state.window ≡ 0 → state.passed ≡ 0 → TicksAlone h → ThrottleRepresents state h
fresh_represents state h sound start window passed alone = record {
  sound = sound;
  start = start;
  passed =
      λ w later. none (w == state.window) state.passed (count_in state.windows.secs w h) state.count passed
      (ap length (alone_events state.windows.secs w h alone));
}
  where
    none : (t : Bool) (passed came n : ℕ) → passed ≡ 0 → came ≡ 0 → cond t passed 0 ≡ min came n
    none true passed came n e f = omega arith
    none false passed came n e f = omega arith

pub tick_represents : (state : ThrottleState) (h : History) → ThrottleRepresents state h
    → ThrottleRepresents state (h ▸ Tick)
tick_represents state h before = record {
  sound = before.sound;
  start = before.start;
  passed = λ w later. let up = window-≤ state.windows.secs h state.windows.positive in before.passed w (omega arith);
}

one_more : (came n : ℕ) → min came n + one_if (nat_lt (min came n) n) ≡ min (came + 1) n
one_more came n = grind (arith, nat_tests)

-- one event more in the present window
module _ (n secs : ℕ) (positive : 0 < secs) (h : History) (event : Event) (passed : ℕ)
    (is : passed ≡ min (count_in secs (window_of secs h) h) n) where
  now_more : (t : Bool) → t ≡ true
      → passed + one_if (nat_lt passed n)
      ≡ min (length (cond t (events_in secs (window_of secs h) h ++ event ∷ []) (events_in secs (window_of secs h) h)))
      n
  now_more false e = absurd (cc)
  now_more true e =
      ap (λ p. p + one_if (nat_lt p n)) is ∙ one_more (count_in secs (window_of secs h) h) n
      ∙ ap (λ m. min m n) (sym (length_push (events_in secs (window_of secs h) h) event))

  none_later : (window : ℕ) (t u : Bool) (more : ℕ) → window_of secs h < window → t ≡ false → u ≡ false
      → cond t more 0 ≡ min (length (cond u (events_in secs window h ++ event ∷ []) (events_in secs window h))) n
  none_later window true u more later e f = absurd (cc)
  none_later window false true more later e f = absurd (cc)
  none_later window false false more later e f =
      let none = ap length (no_later_events secs window h positive later) in omega arith

  pub counted : (window : ℕ) → window_of secs h ≤ window
      → cond (window == window_of secs h) (passed + one_if (nat_lt passed n)) 0
      ≡ min (count_in secs window (h ▸ In (One event))) n
  counted window from =
      let way : (window ≡ window_of secs h) ⊎ (window_of secs h < window) = grind arith in
      elim way [
        | inl same ↦
            subst
            (λ (w : ℕ). cond (w == window_of secs h) (passed + one_if (nat_lt passed n)) 0
            ≡ min (count_in secs w (h ▸ In (One event))) n)
            (sym same)
            (ap (λ t. cond t (passed + one_if (nat_lt passed n)) 0) (eq-eqb (window_of secs h) (window_of secs h) refl)
            ∙ now_more (window_of secs h == window_of secs h) (eq-eqb (window_of secs h) (window_of secs h) refl))
        | inr later ↦
            none_later window (window == window_of secs h) (window_of secs h == window)
            (passed + one_if (nat_lt passed n)) later
            (let apart : (window == window_of secs h) ≡ false = grind (arith, nat_tests) in apart)
            (ne-test (window_of secs h) window later)
      ]

below_min : (came n : ℕ) → nat_lt (min came n) n ≡ nat_lt came n
below_min came n = grind (arith, nat_tests)

-- an event comes
module _ (old : ThrottleState) (h : History) (event : Event) (now : ℕ) (before : ThrottleRepresents old h)
    (moment : moment_of h ≡ now) where
  abbrev window : ℕ
  window = number_at old.windows now

  here : window ≡ window_of old.windows.secs h
  here = number_now old.windows h now before.start moment

  passed_here : passed_in old window ≡ min (count_in old.windows.secs (window_of old.windows.secs h) h) old.count
  passed_here = ap (passed_in old) here ∙ before.passed (window_of old.windows.secs h) (omega arith)

  pub item_passes : (passes : Bool) → passes ≡ nat_lt (passed_in old window) old.count
      → cond passes (each (event ∷ [])) [] ≡ throttle_passes old (h ▸ In (One event))
  item_passes passes test =
      ap (λ t. cond t (each (event ∷ [])) [])
      (test ∙ ap (λ p. nat_lt p old.count) passed_here
      ∙ below_min (count_in old.windows.secs (window_of old.windows.secs h) h) old.count)

  pub item_represents : (passes : Bool) → passes ≡ nat_lt (passed_in old window) old.count →
      ThrottleRepresents
      (record old { window = window; passed = passed_in old window + one_if passes; poisoned = false })
      (h ▸ In (One event))
  item_represents passes test = record {
    sound = refl;
    start = before.start;
    passed = λ w from.
        ap (λ v. cond (w == v) (passed_in old window + one_if passes) 0) here
        ∙ ap (λ t. cond (w == window_of old.windows.secs h) (passed_in old window + one_if t) 0) test
        ∙ counted old.count old.windows.secs old.windows.positive h event (passed_in old window) passed_here w from;
  }
