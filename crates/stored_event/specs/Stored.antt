-- Events in replies.
use Rattle.std.specs.Prelude.{ℕ, List, length}
use Rattle.ev_types.specs.declared.event.Event.{Event}
use Rattle.riemann_msg.specs.Reply.{found}
use Rattle.riemann_msg.specs.Spelling.{spelling}

-- how many bytes a reply has in which these events are found
abbrev pub reply_len : List Event → ℕ
reply_len events = length (spelling (found events))
