-- The three kinds of replies, which are messages too.
use Rattle.std.specs.Prelude.{ℕ, true, false, List, [], map, Some, None}
use denote.Ref.{Bor}
use Rattle.ev_types.specs.declared.event.Event.{Event}
use Rattle.riemann_msg.specs.declared.msg.Msg.{Msg}

-- the message was accepted
abbrev pub accepted : Msg
accepted = record { ok = Some true; error = None; query = None; events = [] }

-- the message was refused, for this reason
abbrev pub refused : List ℕ → Msg
refused error = record { ok = Some false; error = Some error; query = None; events = [] }

-- the message was accepted, and these events meet its query
abbrev pub found : List Event → Msg
found events = record { ok = Some true; error = None; query = None; events = events }

-- events that are lent from where they lie
abbrev pub events_lent : List (Bor Event) → List Event
events_lent = map (λ event. event.now)
