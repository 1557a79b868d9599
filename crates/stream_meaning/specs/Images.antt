-- Streams that change what comes and keep nothing.
use Rattle.std.specs.Prelude.{ℕ, ℤ, pos, ◌+ℤ◌, int_lt, if◌then◌else◌, List, [], ◌∷◌, length, filter, Option, Some, None}
use Rattle.std.specs.Prelude.{is_some, unwrap_or}
use Rattle.std.specs.Int.{w64, saturate_signed}
use Rattle.ev_types.specs.declared.event.Event.{Event}
use Rattle.ev_types.specs.declared.settings.Fold.{Fold}
use Rattle.ev_types.specs.declared.settings.Fold.TheVariants.{Sum, Minimum, Maximum, Count}
use Rattle.ev_types.specs.declared.settings.Set.{Set}
use Rattle.ev_types.specs.declared.value.Value.TheVariants.{Nil}
use Rattle.ev_types.specs.Value.{same_value}
use Rattle.ev_types.specs.Field.{field_value}
use Rattle.ev_types.specs.Set.{with_set, with_tag}

-- all sets made, in order
abbrev pub with_sets : List Set → Event → Event
with_sets [] event = event
with_sets (set ∷ sets) event = with_sets sets (with_set event set.field set.value)

-- the set made where the field holds nothing
abbrev pub with_default : Event → Set → Event
with_default event set =
    if same_value (field_value event set.field) Nil then with_set event set.field set.value else event

-- each set made where its field holds nothing, in order
abbrev pub with_defaults : List Set → Event → Event
with_defaults [] event = event
with_defaults (set ∷ sets) event = with_defaults sets (with_default event set)

-- each tag added that the event lacks, in order
abbrev pub with_tags : List (List ℕ) → Event → Event
with_tags [] event = event
with_tags (tag ∷ tags) event = with_tags tags (with_tag event tag)

-- the events that have a metric
abbrev pub measured : List Event → List Event
measured = filter (λ event. is_some event.metric)

-- the metric of an event that has one
abbrev pub metric_of : Event → ℤ
metric_of event = unwrap_or event.metric (pos 0)

abbrev pub sum_of_metrics : List Event → ℤ
sum_of_metrics [] = pos 0
sum_of_metrics (event ∷ es) = metric_of event +ℤ sum_of_metrics es

-- the event with a metric that was computed; what says the old one in another form goes
abbrev pub with_metric : ℤ → Event → Event
with_metric number event = record event { metric = Some number; raw_d = None; raw_f = None }

-- the first of the events with the least metric
abbrev pub least_of : Event → List Event → Event
least_of least [] = least
least_of least (event ∷ es) = least_of (if int_lt (metric_of event) (metric_of least) then event else least) es

-- the first of the events with the greatest metric
abbrev pub greatest_of : Event → List Event → Event
greatest_of greatest [] = greatest
greatest_of greatest (event ∷ es) =
    greatest_of (if int_lt (metric_of greatest) (metric_of event) then event else greatest) es

-- one event of those that have a metric: the first one with the sum of all, within 64 signed bits
abbrev pub sum_event : List Event → Option Event
sum_event [] = None
sum_event (first ∷ more) = Some (with_metric (saturate_signed w64 (sum_of_metrics (first ∷ more))) first)

abbrev pub least_event : List Event → Option Event
least_event [] = None
least_event (first ∷ more) = Some (least_of first more)

abbrev pub greatest_event : List Event → Option Event
greatest_event [] = None
greatest_event (first ∷ more) = Some (greatest_of first more)

-- the first of all events with their number as its metric
abbrev pub count_event : List Event → Option Event
count_event [] = None
count_event (first ∷ more) = Some (with_metric (pos (length (first ∷ more))) first)

-- the one event that is made of a vector, where one is
abbrev pub folded : Fold → List Event → Option Event
folded Sum es = sum_event (measured es)
folded Minimum es = least_event (measured es)
folded Maximum es = greatest_event (measured es)
folded Count es = count_event es
