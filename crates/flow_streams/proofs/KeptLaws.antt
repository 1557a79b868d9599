-- What the states of streams that compare events keep.
use Rattle.std.proofs.Common.{◌≡◌, ℕ, ◌+◌, min, Bool, true, false, cond, List, [], ◌∷◌, ◌++◌, length, refl, sym, ap}
use Rattle.std.proofs.Common.{◌∙◌, arith, ◌==◌, nat_le}
use Rattle.std.specs.Prelude.{Option, None}
use Rattle.std.proofs.lemmas.List.{length_push}
use Rattle.std.proofs.lemmas.Bool.Decides.{nat_tests}
use Rattle.ev_types.specs.declared.event.Event.{Event}
use Rattle.ev_types.specs.declared.field.Field.{Field}
use Rattle.ev_types.specs.declared.item.Item.TheVariants.{One}
use Rattle.ev_types.specs.declared.value.Value.{Value}
use Rattle.ev_types.specs.Field.{field_value}
use Rattle.stream_meaning.specs.declared.entry.Entry.TheVariants.{Tick, Item as In}
use Rattle.stream_meaning.specs.History.{History, since, ◌▸◌, TicksAlone}
use Rattle.stream_meaning.specs.Came.{each}
use Rattle.stream_meaning.specs.Runs.{differs_from, last_value, run, runs_items}
use Rattle.stream_meaning.proofs.RunLaws.{has_run-length}
use Rattle.stream_meaning.proofs.TickLaws.{run-ticks}

-- where nothing has come but ticks the first value is still the one to compare with
pub last_value-ticks : (field : Field) (init : Option Value) (h : History) → TicksAlone h
    → last_value field init h ≡ init
last_value-ticks field init (since start) alone = refl
last_value-ticks field init (h ▸ Tick) alone = last_value-ticks field init h alone
last_value-ticks field init (h ▸ In item) alone = absurd alone

-- the length of a run, at most a count
pub counted : ℕ → Field → History → ℕ
counted count field h = min count (length (run field h))

pub counted-ticks : (count : ℕ) (field : Field) (h : History) → TicksAlone h → 0 ≡ min count (length (run field h))
counted-ticks count field h alone = none count (length (run field h)) (ap length (run-ticks field h alone))
  where
    none : (count n : ℕ) → n ≡ 0 → 0 ≡ min count n
    none count n e = omega arith

-- an event goes on with the run (not d) or begins one
counted_step : (count : ℕ) (d : Bool) (r : List Event) (event : Event) (old : ℕ) → old ≡ min count (length r) →
    min count (cond d 1 (old + 1)) ≡ min count (length (cond d (event ∷ []) (r ++ event ∷ [])))
counted_step count true r event old e = refl
counted_step count false r event old e = omega (arith, length_push r event)

counted-more : (count : ℕ) (field : Field) (h : History) (event : Event) (last : Option Value) (old : ℕ) →
    last ≡ last_value field None h → old ≡ min count (length (run field h)) →
    min count (cond (differs_from field last event) 1 (old + 1)) ≡ min count (length (run field (h ▸ In (One event))))
counted-more count field h event last old is e =
    ap (λ l. min count (cond (differs_from field l event) 1 (old + 1))) is
    ∙ counted_step count (differs_from field (last_value field None h) event) (run field h) event old e

full : (count n : ℕ) → nat_le count n ≡ (min count n == count)
full count n = grind (arith, nat_tests)

-- an event passes where the run is as long as the count
runs_items-count : (count : ℕ) (field : Field) (h : History) (event : Event) (now : ℕ) →
    now ≡ min count (length (run field (h ▸ In (One event)))) →
    runs_items count field (h ▸ In (One event)) ≡ cond (now == count) (each (event ∷ [])) []
runs_items-count count field h event now e =
    ap (λ t. cond t (each (event ∷ [])) [])
    (has_run-length count field (field_value event field) (h ▸ In (One event)) refl
    ∙ full count (length (run field (h ▸ In (One event)))) ∙ ap (λ n. n == count) (sym e))

-- the test that the code makes, where it counted the event
pub full-passes : (count : ℕ) (field : Field) (h : History) (event : Event) (last : Option Value) (old now : ℕ) →
    last ≡ last_value field None h → old ≡ min count (length (run field h)) →
    now ≡ min count (cond (differs_from field last event) 1 (old + 1)) →
    cond (now == count) (each (event ∷ [])) [] ≡ runs_items count field (h ▸ In (One event))
full-passes count field h event last old now is e counts =
    sym (runs_items-count count field h event now (counts ∙ counted-more count field h event last old is e))
