-- Messages that are nothing but events.
use Rattle.std.specs.Prelude.{List, None}
use Rattle.ev_types.specs.declared.event.Event.{Event}
use Rattle.riemann_msg.specs.declared.msg.Msg.{Msg}

-- the message has these events, and nothing else
abbrev pub sent_of : List Event → Msg
sent_of events = record { ok = None; error = None; query = None; events = events }
