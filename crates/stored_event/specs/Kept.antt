-- How an event is kept.
use Rattle.std.specs.Box.{box_value}
use Rattle.ev_types.specs.declared.event.Event.{Event}
use Rattle.stored_event.specs.declared.stored.Kept.{Kept}
use Rattle.stored_event.specs.declared.stored.Kept.TheVariants.{Owned, Packed}

-- the event: its own parts, or what is packed, which is this event
abbrev pub event_kept : {P : Type 0} → (P → Event) → Kept P → Event
event_kept event (Owned owned) = box_value owned
event_kept event (Packed packed) = event packed
