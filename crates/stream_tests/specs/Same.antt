-- Tests of whether items are equal.
use Rattle.std.specs.Prelude.{Bool, false, ◌&&◌, nat_eq}
use Rattle.std.specs.Cmp.Lexicographic.{pointwise}
use Rattle.std.specs.Option.{option_eq}
use Rattle.std.specs.Ordering.{int_eq}
use Rattle.std.specs.Str.{bytes_eq}
use Rattle.ev_types.specs.declared.event.Attr.{Attr}
use Rattle.ev_types.specs.declared.event.Event.{Event}
use Rattle.ev_types.specs.declared.item.Item.{Item}
use Rattle.ev_types.specs.declared.item.Item.TheVariants.{One, Many}

abbrev pub same_texts : Event → Event → Bool
same_texts a b =
    option_eq bytes_eq a.host b.host
    && (option_eq bytes_eq a.service b.service
    && (option_eq bytes_eq a.state b.state && option_eq bytes_eq a.description b.description))

abbrev pub same_times : Event → Event → Bool
same_times a b = int_eq a.time b.time && (option_eq int_eq a.time_micros b.time_micros && option_eq nat_eq a.ttl b.ttl)

abbrev pub same_metrics : Event → Event → Bool
same_metrics a b =
    option_eq int_eq a.metric b.metric && (option_eq nat_eq a.raw_d b.raw_d && option_eq nat_eq a.raw_f b.raw_f)

abbrev pub same_attribute : Attr → Attr → Bool
same_attribute a b = bytes_eq a.key b.key && option_eq bytes_eq a.value b.value

abbrev pub same_event : Event → Event → Bool
same_event a b =
    same_texts a b
    && (same_times a b
    && (same_metrics a b && (pointwise bytes_eq a.tags b.tags && pointwise same_attribute a.attributes b.attributes)))

abbrev pub same_item : Item → Item → Bool
same_item (One a) (One b) = same_event a b
same_item (Many events) (Many others) = pointwise same_event events others
same_item _ _ = false
