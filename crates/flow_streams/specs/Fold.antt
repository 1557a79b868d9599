-- What is made of the events so far and one more.
use Rattle.std.specs.Prelude.{int_lt, is_some, if◌then◌else◌, List, [], ◌∷◌, Option, Some, None}
use Rattle.ev_types.specs.declared.event.Event.{Event}
use Rattle.stream_meaning.specs.Images.{metric_of}

abbrev pub first_of : List Event → Option Event
first_of [] = None
first_of (event ∷ es) = Some event

-- the lesser of two events that have a metric, the first where they are equal
abbrev pub lesser_measured : Option Event → Event → Option Event
lesser_measured None event = Some event
lesser_measured (Some least) event = Some (if int_lt (metric_of event) (metric_of least) then event else least)

abbrev pub lesser_of : Option Event → Event → Option Event
lesser_of least event = if is_some event.metric then lesser_measured least event else least

-- the greater of two events that have a metric, the first where they are equal
abbrev pub greater_measured : Option Event → Event → Option Event
greater_measured None event = Some event
greater_measured (Some greatest) event =
    Some (if int_lt (metric_of greatest) (metric_of event) then event else greatest)

abbrev pub greater_of : Option Event → Event → Option Event
greater_of greatest event = if is_some event.metric then greater_measured greatest event else greatest
