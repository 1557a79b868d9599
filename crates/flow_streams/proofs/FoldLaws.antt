-- What a fold makes of the events so far and one more.
use Rattle.std.proofs.Common.{◌≡◌, ℕ, ◌+◌, ◌<◌, Bool, true, false, cond, List, [], ◌∷◌, ◌++◌, length, take, get_or}
use Rattle.std.proofs.Common.{refl, sym, ap, ◌∙◌, pos, ℤ, ◌+ℤ◌, arith}
use Rattle.std.specs.Prelude.{Option, Some, None, is_some, unwrap_or, int_lt, if◌then◌else◌}
use Rattle.std.proofs.lemmas.List.{take_more, append-nil}
use Rattle.std.proofs.lemmas.Int.{ints}
use Rattle.ev_types.specs.declared.event.Event.{Event}
use Rattle.stream_meaning.specs.Images.{measured, metric_of, sum_of_metrics, least_of, greatest_of, least_event}
use Rattle.stream_meaning.specs.Images.{greatest_event}
use Rattle.flow_streams.specs.Fold.{lesser_measured, lesser_of, greater_measured, greater_of}

-- an event without a metric adds nothing
no_metric : (event : Event) (sum : ℤ) → is_some event.metric ≡ false → metric_of event +ℤ sum ≡ sum
no_metric event sum e = none event.metric sum e
  where
    none : (metric : Option ℤ) (sum : ℤ) → is_some metric ≡ false → unwrap_or metric (pos 0) +ℤ sum ≡ sum
    none None sum e = omega (arith, ints)
    none (Some number) sum e = absurd (cc)

measured_step : (t : Bool) (event : Event) (es : List Event) → is_some event.metric ≡ t →
    sum_of_metrics (measured es) ≡ sum_of_metrics es →
    sum_of_metrics (cond t (event ∷ measured es) (measured es)) ≡ metric_of event +ℤ sum_of_metrics es
measured_step true event es e f = ap (λ sum. metric_of event +ℤ sum) f
measured_step false event es e f = f ∙ sym (no_metric event (sum_of_metrics es) e)

pub sum_of_measured : (es : List Event) → sum_of_metrics (measured es) ≡ sum_of_metrics es
sum_of_measured [] = refl
sum_of_measured (event ∷ es) = measured_step (is_some event.metric) event es refl (sum_of_measured es)

sum-push : (es : List Event) (event : Event) → sum_of_metrics (es ++ event ∷ []) ≡ sum_of_metrics es +ℤ metric_of event
sum-push [] event = omega (arith, ints)
sum-push (first ∷ es) event = let more = sum-push es event in omega (arith, ints)

pub sum_of_more : (es : List Event) (i : ℕ) (event : Event) → i < length es → event ≡ get_or es i event →
    sum_of_metrics (take (i + 1) es) ≡ sum_of_metrics (take i es) +ℤ metric_of event
sum_of_more es i event within is =
    ap sum_of_metrics (take_more es i event within) ∙ ap (λ e. sum_of_metrics (take i es ++ e ∷ [])) (sym is)
    ∙ sum-push (take i es) event

measured-push : (es : List Event) (event : Event) → measured (es ++ event ∷ []) ≡ measured es ++ measured (event ∷ [])
measured-push [] event = refl
measured-push (first ∷ es) event = step (is_some first.metric) first es event (measured-push es event)
  where
    step : (t : Bool) (first : Event) (es : List Event) (event : Event) →
        measured (es ++ event ∷ []) ≡ measured es ++ measured (event ∷ []) →
        cond t (first ∷ measured (es ++ event ∷ [])) (measured (es ++ event ∷ []))
        ≡ cond t (first ∷ measured es) (measured es) ++ measured (event ∷ [])
    step true first es event e = ap (λ l. first ∷ l) e
    step false first es event e = e

least_of-push : (es : List Event) (least event : Event)
    → Some (least_of least (es ++ event ∷ [])) ≡ lesser_measured (Some (least_of least es)) event
least_of-push [] least event = refl
least_of-push (first ∷ es) least event =
    least_of-push es (if int_lt (metric_of first) (metric_of least) then first else least) event

least-push : (es : List Event) (event : Event) → least_event (es ++ event ∷ []) ≡ lesser_measured (least_event es) event
least-push [] event = refl
least-push (first ∷ es) event = least_of-push es first event

greatest_of-push : (es : List Event) (greatest event : Event)
    → Some (greatest_of greatest (es ++ event ∷ [])) ≡ greater_measured (Some (greatest_of greatest es)) event
greatest_of-push [] greatest event = refl
greatest_of-push (first ∷ es) greatest event =
    greatest_of-push es (if int_lt (metric_of greatest) (metric_of first) then first else greatest) event

greatest-push : (es : List Event) (event : Event)
    → greatest_event (es ++ event ∷ []) ≡ greater_measured (greatest_event es) event
greatest-push [] event = refl
greatest-push (first ∷ es) event = greatest_of-push es first event

-- one more event counts where it has a metric
if_measured : (F : List Event → Option Event) (G : Option Event → Event → Option Event) →
    ((es : List Event) (event : Event) → F (es ++ event ∷ []) ≡ G (F es) event) →
    (t : Bool) (es : List Event) (event : Event) → F (es ++ cond t (event ∷ []) []) ≡ cond t (G (F es) event) (F es)
if_measured F G f true es event = f es event
if_measured F G f false es event = ap F (append-nil es)

pub least_more : (es : List Event) (i : ℕ) (event : Event) → i < length es → event ≡ get_or es i event →
    least_event (measured (take (i + 1) es)) ≡ lesser_of (least_event (measured (take i es))) event
least_more es i event within is =
    ap (λ l. least_event (measured l)) (take_more es i event within)
    ∙ ap (λ e. least_event (measured (take i es ++ e ∷ []))) (sym is)
    ∙ ap least_event (measured-push (take i es) event)
    ∙ if_measured least_event lesser_measured least-push (is_some event.metric) (measured (take i es)) event

pub greatest_more : (es : List Event) (i : ℕ) (event : Event) → i < length es → event ≡ get_or es i event →
    greatest_event (measured (take (i + 1) es)) ≡ greater_of (greatest_event (measured (take i es))) event
greatest_more es i event within is =
    ap (λ l. greatest_event (measured l)) (take_more es i event within)
    ∙ ap (λ e. greatest_event (measured (take i es ++ e ∷ []))) (sym is)
    ∙ ap greatest_event (measured-push (take i es) event)
    ∙ if_measured greatest_event greater_measured greatest-push (is_some event.metric) (measured (take i es)) event
