-- The lines of replies.
use Rattle.std.specs.Prelude.{ℕ, ◌+◌, Bool, true, false, List, [], ◌∷◌, ◌++◌, codes, Option, Some, None}
use Rattle.std.specs.Fmt.{decimal}
use Rattle.std.specs.List.{flat_map}
use Rattle.ev_types.specs.declared.event.Event.{Event}
use Rattle.notice_sink.specs.Lines.{event_text}
use Rattle.notice_sink.specs.Quoting.{quoted}
use Rattle.riemann_msg.specs.declared.msg.Msg.{Msg}

-- `error`, and the reason where there is one
abbrev pub error_part : Option (List ℕ) → List ℕ
error_part None = codes "error"
error_part (Some reason) = codes "error" ++ (32 ∷ quoted reason)

-- a reply says that its request was accepted, or not
abbrev pub verdict_as : Option Bool → Option (List ℕ) → List ℕ
verdict_as (Some true) error = codes "ok"
verdict_as (Some false) error = error_part error
verdict_as None error = error_part error

abbrev pub verdict_text : Msg → List ℕ
verdict_text msg = verdict_as msg.ok msg.error

abbrev pub event_line : Event → List ℕ
event_line event = event_text event ++ 10 ∷ []

-- the number of the reply and what it says, and then a line for each event
abbrev pub reply_text : ℕ → Msg → List ℕ
reply_text number msg = decimal number ++ (32 ∷ (verdict_text msg ++ (10 ∷ flat_map event_line msg.events)))

-- the lines of replies one after another, of which the first has this number
abbrev pub replies_from : ℕ → List Msg → List ℕ
replies_from number [] = []
replies_from number (msg ∷ msgs) = reply_text number msg ++ replies_from (number + 1) msgs
