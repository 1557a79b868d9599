-- The frames of a text, and its refused lines.
use Rattle.std.specs.Prelude.{◌≡◌, ℕ, List, [], ◌∷◌, map, Option, Some, None, Result, Ok, Err}
use Rattle.std.specs.List.{AllByRecursion, enumerate_from, filter_map, flat_map}
use Rattle.ev_types.specs.declared.event.Event.{Event}
use Rattle.framing.specs.Frames.{frame, frames_of, partial}
use Rattle.riemann_msg.specs.declared.msg.Msg.{Msg}
use Rattle.riemann_msg.specs.Fault.{first_fault}
use Rattle.riemann_msg.specs.Spelling.{spelling}
use Rattle.riemann_msg.specs.Value.{message_of}
use Rattle.graphite_lines.specs.declared.bad.BadLine.{BadLine}
use Rattle.graphite_lines.specs.declared.fault.LineWhy.{LineWhy}
use Rattle.graphite_lines.specs.Lines.{line_says, lines_of}

-- a message of one event
abbrev pub message_with : Event → Msg
message_with event = record { ok = None; error = None; query = None; events = event ∷ [] }

-- the event of a line that is accepted
abbrev pub accepted_in : Result (Option Event) LineWhy → Option Event
accepted_in (Ok event) = event
accepted_in (Err why) = None

-- the events of the accepted lines, in order
unfoldable pub accepted : Option ℕ → List (List ℕ) → List Event
accepted host_part lines = filter_map (λ line. accepted_in (line_says host_part line)) lines

-- a frame of each event
unfoldable pub frames_with : List Event → List ℕ
frames_with events = flat_map (λ event. frame (spelling (message_with event))) events

-- a line that is refused, with its number
abbrev pub refused_in : ℕ → Result (Option Event) LineWhy → Option BadLine
refused_in number (Ok event) = None
refused_in number (Err why) = Some (record { line = number; why = why })

-- the refused lines, in order; the first of the lines has this number
unfoldable pub refused_from : ℕ → Option ℕ → List (List ℕ) → List BadLine
refused_from first host_part lines =
    filter_map (λ at. refused_in at.0 (line_says host_part at.1)) (enumerate_from first lines)

-- the frames of a text, and its refused lines; lines count from 1
abbrev pub frames_in : Option ℕ → List ℕ → List ℕ
frames_in host_part text = frames_with (accepted host_part (lines_of text))

abbrev pub refused_lines : Option ℕ → List ℕ → List BadLine
refused_lines host_part text = refused_from 1 host_part (lines_of text)

-- The frames of a text are read again at any moment: nothing is left after the last one, no body has a fault, and the
-- bodies are messages of one event each, which are those of the accepted lines in order.
pub record AreReadBack (events : List Event) (bytes : List ℕ) : Type 0 where
  pub whole : partial bytes ≡ []
  pub faultless : AllByRecursion (λ body. first_fault body ≡ None) (frames_of bytes)
  pub same : (now : ℕ) → map (message_of now) (frames_of bytes) ≡ map message_with events

abbrev pub FramesAreReadBack : Type 0
FramesAreReadBack = (host_part : Option ℕ) (text : List ℕ)
    → AreReadBack (accepted host_part (lines_of text)) (frames_in host_part text)
