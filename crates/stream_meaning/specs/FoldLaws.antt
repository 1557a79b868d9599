-- What the folds of a vector pass on, apart from how it is computed.
use Rattle.std.specs.Prelude.{◌≡◌, ℤ, pos, negsuc, ◌+ℤ◌, ◌-◌, ◌^◌, ◌<ℤ◌, ◌≤ℤ◌, List, [], ◌∷◌, ◌++◌, All, MatchOption}
use Rattle.ev_types.specs.declared.event.Event.{Event}
use Rattle.ev_types.specs.declared.settings.Fold.TheVariants.{Sum, Minimum, Maximum}
use Rattle.stream_meaning.specs.Images.{measured, metric_of, sum_of_metrics, with_metric, folded}

-- one of the events: none of them has a lesser metric, and none before it has the same
pub record IsFirstLeast (es : List Event) (least : Event) : Type 0 where
  pub before : List Event
  pub after : List Event
  pub among : es ≡ before ++ least ∷ after
  pub first : All (λ event. metric_of least <ℤ metric_of event) before
  pub bound : All (λ event. metric_of least ≤ℤ metric_of event) after

-- one of the events: none of them has a greater metric, and none before it has the same
pub record IsFirstGreatest (es : List Event) (greatest : Event) : Type 0 where
  pub before : List Event
  pub after : List Event
  pub among : es ≡ before ++ greatest ∷ after
  pub first : All (λ event. metric_of event <ℤ metric_of greatest) before
  pub bound : All (λ event. metric_of event ≤ℤ metric_of greatest) after

-- of the events that have a metric; nothing where none has one
abbrev pub MinimumIsTheFirstLeast : Type 0
MinimumIsTheFirstLeast =
    (es : List Event) → MatchOption (folded Minimum es) (measured es ≡ []) (IsFirstLeast (measured es))

abbrev pub MaximumIsTheFirstGreatest : Type 0
MaximumIsTheFirstGreatest =
    (es : List Event) → MatchOption (folded Maximum es) (measured es ≡ []) (IsFirstGreatest (measured es))

-- the sum of one metric is the metric, and that of two lists of events is the sum of both
pub record SumsAdd : Type 0 where
  pub one : (event : Event) → sum_of_metrics (event ∷ []) ≡ metric_of event
  pub both : (es more : List Event) → sum_of_metrics (es ++ more) ≡ sum_of_metrics es +ℤ sum_of_metrics more

abbrev pub least_number : ℤ
least_number = negsuc (2 ^ 63 - 1)

abbrev pub greatest_number : ℤ
greatest_number = pos (2 ^ 63 - 1)

-- the number itself where it is in the range of 64 signed bits, and else the end of the range that is nearer
pub record IsHeld (number held : ℤ) : Type 0 where
  pub within : least_number ≤ℤ number → number ≤ℤ greatest_number → held ≡ number
  pub below : number <ℤ least_number → held ≡ least_number
  pub above : greatest_number <ℤ number → held ≡ greatest_number

-- the first of the events, with the sum of all their metrics held to the range
pub record IsSumOfAll (es : List Event) (event : Event) : Type 0 where
  pub first : Event
  pub more : List Event
  pub among : es ≡ first ∷ more
  pub sum : ℤ
  pub held : IsHeld (sum_of_metrics es) sum
  pub made : event ≡ with_metric sum first

abbrev pub SumIsHeldToTheRange : Type 0
SumIsHeldToTheRange = (es : List Event) → MatchOption (folded Sum es) (measured es ≡ []) (IsSumOfAll (measured es))
