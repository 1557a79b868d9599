-- How notices are written.
use Rattle.std.specs.Prelude.{ℕ, ℤ, List, [], ◌∷◌, ◌++◌, map, codes, decimal, Option, Some, None}
use Rattle.std.specs.Fmt.{signed_decimal}
use Rattle.std.specs.List.{flat_map, join_with_byte}
use Rattle.ev_types.specs.declared.event.Attr.{Attr}
use Rattle.ev_types.specs.declared.event.Event.{Event}
use Rattle.ev_types.specs.declared.item.Item.{Item}
use Rattle.ev_types.specs.declared.item.Item.TheVariants.{One, Many}
use Rattle.ev_types.specs.declared.item.Notice.{Notice}
use Rattle.notice_sink.specs.Quoting.{quoted}

-- a field that may be absent
abbrev pub text_part : List ℕ → Option (List ℕ) → List (List ℕ)
text_part name None = []
text_part name (Some text) = (name ++ quoted text) ∷ []

abbrev pub ttl_part : Option ℕ → List (List ℕ)
ttl_part None = []
ttl_part (Some ttl) = (codes "ttl=" ++ decimal ttl) ∷ []

abbrev pub metric_part : Option ℤ → List (List ℕ)
metric_part None = []
metric_part (Some metric) = (codes "metric=" ++ signed_decimal metric) ∷ []

-- tags, where there are any
abbrev pub tags_part : List (List ℕ) → List (List ℕ)
tags_part [] = []
tags_part (tag ∷ tags) = (codes "tags=[" ++ (join_with_byte 32 (map quoted (tag ∷ tags)) ++ 93 ∷ [])) ∷ []

abbrev pub value_text : Option (List ℕ) → List ℕ
value_text None = []
value_text (Some text) = 61 ∷ quoted text

abbrev pub attribute_text : Attr → List ℕ
attribute_text attribute = 64 ∷ (quoted attribute.key ++ value_text attribute.value)

-- the fields before the time, and those after it
abbrev pub first_parts : Event → List (List ℕ)
first_parts event =
    text_part (codes "host=") event.host
    ++ (text_part (codes "service=") event.service
    ++ (text_part (codes "state=") event.state
    ++ text_part (codes "description=") event.description))

abbrev pub time_text : Event → List ℕ
time_text event = codes "time=" ++ signed_decimal event.time

abbrev pub last_parts : Event → List (List ℕ)
last_parts event =
    ttl_part event.ttl ++ (metric_part event.metric ++ (tags_part event.tags ++ map attribute_text event.attributes))

-- an event: its present fields, with single spaces between them
abbrev pub event_text : Event → List ℕ
event_text event = 123 ∷ (join_with_byte 32 (first_parts event ++ (time_text event ∷ last_parts event)) ++ 125 ∷ [])

-- an item: an event, or a vector of events
abbrev pub item_text : Item → List ℕ
item_text (One event) = event_text event
item_text (Many events) = 91 ∷ (join_with_byte 32 (map event_text events) ++ 93 ∷ [])

-- a notice: the moment, the name and the item
abbrev pub notice_line : Notice → List ℕ
notice_line notice =
    decimal notice.moment ++ (32 ∷ (quoted notice.name ++ (32 ∷ (item_text notice.item ++ 10 ∷ []))))

abbrev pub lines_of : List Notice → List ℕ
lines_of notices = flat_map notice_line notices
