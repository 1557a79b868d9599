-- The lines of a text, and what each says.
use Rattle.std.specs.Prelude.{ℕ, ◌==◌, Bool, true, if◌then◌else◌, List, [], ◌∷◌, length, codes, Option, Some, None}
use Rattle.std.specs.List.{slice_split}
use Rattle.std.specs.Option.{option_and_then, option_map}
use Rattle.std.specs.Str.{bytes_eq}
use Rattle.ports.specs.declared.script.LinkEvent.{LinkEvent}
use Rattle.ports.specs.declared.script.LinkEvent.TheVariants.{Idle, Opened, Read, Ended, Broken, Room}
use Rattle.ports.specs.declared.script.Step.TheVariants as step
use Rattle.script_text.specs.declared.line.Line.{Line}
use Rattle.script_text.specs.declared.line.Line.TheVariants.{Skipped, Start, Step}
use Rattle.script_text.specs.Words.{number_of, piece_of}

-- A line ends with LF or the end of the text. After the last LF there is no line where no byte follows.
abbrev pub without_empty_last : List (List ℕ) → List (List ℕ)
without_empty_last [] = []
without_empty_last (part ∷ []) = if length part == 0 then [] else part ∷ []
without_empty_last (part ∷ next ∷ parts) = part ∷ without_empty_last (next ∷ parts)

unfoldable pub lines_of : List ℕ → List (List ℕ)
lines_of text = without_empty_last (slice_split (λ byte. byte == 10) text)

-- the lines of a text that are not read yet, and the number of those that were
pub record LinesAt : Type 0 where
  pub lines : List (List ℕ)
  pub passed : ℕ

-- a turn at the second that the word says
abbrev pub turn_at : List ℕ → LinkEvent → Option Line
turn_at secs event = option_map (λ secs. Step (step.Turn secs event)) (number_of secs)

-- `start SECS`, `fail L` and `SECS idle`
unfoldable pub two_words : List ℕ → List ℕ → Option Line
two_words first second =
    if bytes_eq first (codes "start") then option_map (λ secs. Start secs) (number_of second)
    else (if bytes_eq first (codes "fail") then option_map (λ link. Step (step.Fail link)) (number_of second)
    else (if bytes_eq second (codes "idle") then turn_at first Idle
    else None))

abbrev pub take_of : List ℕ → List ℕ → Option Line
take_of link count =
    option_and_then (λ link. option_map (λ count. Step (step.Take link count)) (number_of count)) (number_of link)

abbrev pub event_of : List ℕ → ℕ → Option LinkEvent
event_of kind link =
    if bytes_eq kind (codes "open") then Some (Opened link)
    else (if bytes_eq kind (codes "end") then Some (Ended link)
    else (if bytes_eq kind (codes "broken") then Some (Broken link)
    else (if bytes_eq kind (codes "room") then Some (Room link)
    else None)))

-- `take L N`, `SECS open L`, `SECS end L`, `SECS broken L` and `SECS room L`
unfoldable pub three_words : List ℕ → List ℕ → List ℕ → Option Line
three_words first second third =
    if bytes_eq first (codes "take") then take_of second third
    else option_and_then (λ link. option_and_then (turn_at first) (event_of second link)) (number_of third)

-- `SECS read L HEX`
unfoldable pub four_words : List ℕ → List ℕ → List ℕ → List ℕ → Option Line
four_words first second third fourth =
    if bytes_eq second (codes "read")
    then option_and_then (λ link. option_and_then (λ piece. turn_at first (Read link piece)) (piece_of fourth))
    (number_of third)
    else None

abbrev pub line_of_words : List (List ℕ) → Option Line
line_of_words (a ∷ b ∷ []) = two_words a b
line_of_words (a ∷ b ∷ c ∷ []) = three_words a b c
line_of_words (a ∷ b ∷ c ∷ d ∷ []) = four_words a b c d
line_of_words _ = None

-- the line is empty or begins with `#`
abbrev pub is_skipped : List ℕ → Bool
is_skipped [] = true
is_skipped (byte ∷ bytes) = byte == 35

-- what a line says, where it is valid; its words are separated by one space
unfoldable pub line_of : List ℕ → Option Line
line_of line = if is_skipped line then Some Skipped else line_of_words (slice_split (λ byte. byte == 32) line)
