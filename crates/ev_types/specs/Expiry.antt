-- When an event has expired.
use Rattle.std.specs.Prelude.{ℕ, Bool, ◌||◌, unwrap_or, codes, pos, ◌-ℤ◌, int_lt}
use Rattle.ev_types.specs.declared.event.Event.{Event}
use Rattle.ev_types.specs.Limits.{default_ttl}
use Rattle.ev_types.specs.Text.{is_text}

-- the event's state is "expired", so it ends its key
abbrev pub ends_key : Event → Bool
ends_key event = is_text (codes "expired") event.state

-- at the moment t more seconds have passed since the event's time than its ttl, or the default one if it has none
abbrev pub is_late : ℕ → Event → Bool
is_late t event = int_lt (pos (unwrap_or event.ttl default_ttl)) (pos t -ℤ event.time)

-- the event ends its key, or it is late
abbrev pub is_expired : ℕ → Event → Bool
is_expired t event = ends_key event || is_late t event
