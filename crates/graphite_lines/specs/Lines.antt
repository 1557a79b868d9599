-- The lines of a text, and what each says.
use Rattle.std.specs.Prelude.{ℕ, ◌-◌, ◌==◌, nat_lt, Bool, not, List, [], ◌∷◌, length, take, if◌then◌else◌, slice_index}
use Rattle.std.specs.Prelude.{slice_index_or, Option, Some, None, Result, Ok, Err, ℤ}
use Rattle.std.specs.List.{find, join_with_byte, remove, slice_split}
use Rattle.ev_types.specs.Set.{event_at}
use Rattle.ev_types.specs.declared.event.Event.{Event}
use Rattle.graphite_lines.specs.declared.fault.LineWhy.{LineWhy}
use Rattle.graphite_lines.specs.declared.fault.LineWhy.TheVariants.{Words, Path, Value, Time}
use Rattle.graphite_lines.specs.Words.{is_path, is_time, is_value, time_of, value_of, words_of}

-- ---- lines

-- one CR at the end is left out
unfoldable pub without_cr : List ℕ → List ℕ
without_cr line = if slice_index line (length line - 1) == 13 then take (length line - 1) line else line

-- of the parts between the LFs of a text, each but the last ended with LF
abbrev pub ended : List (List ℕ) → List (List ℕ)
ended [] = []
ended (part ∷ []) = part ∷ []
ended (part ∷ next ∷ parts) = without_cr part ∷ ended (next ∷ parts)

-- The lines of a text. After a last LF there is an empty line, which is skipped as any other.
unfoldable pub lines_of : List ℕ → List (List ℕ)
lines_of text = ended (slice_split (λ byte. byte == 10) text)

-- ---- host and service

-- the parts of a path between its dots
abbrev pub parts_of : List ℕ → List (List ℕ)
parts_of path = slice_split (λ byte. byte == 46) path

-- the path has more parts than the number
abbrev pub has_more_parts : ℕ → List ℕ → Bool
has_more_parts number path = nat_lt number (length (parts_of path))

-- the part of this number, from 1, and the other parts joined by dots
abbrev pub part_of : ℕ → List ℕ → List ℕ
part_of number path = slice_index_or (parts_of path) (number - 1) []

abbrev pub other_parts : ℕ → List ℕ → List ℕ
other_parts number path = join_with_byte 46 (remove (parts_of path) (number - 1))

-- Without a number the path is the service. With one that part is the host, where the path has more parts than that.
abbrev pub host_in : Option ℕ → List ℕ → Option (List ℕ)
host_in None path = None
host_in (Some number) path = if has_more_parts number path then Some (part_of number path) else None

abbrev pub service_in : Option ℕ → List ℕ → List ℕ
service_in None path = path
service_in (Some number) path = if has_more_parts number path then other_parts number path else path

-- ---- what a line says

abbrev pub word_at : List (List ℕ) → ℕ → List ℕ
word_at words number = slice_index_or words number []

-- whether this is a cause to refuse the words of a line
abbrev pub is_cause : List (List ℕ) → LineWhy → Bool
is_cause words Words = not (length words == 3)
is_cause words Path = not (is_path (word_at words 0))
is_cause words Value = not (is_value (word_at words 1))
is_cause words Time = not (is_time (word_at words 2))

-- the first cause, in this order
abbrev pub first_cause : List (List ℕ) → Option LineWhy
first_cause words = find (is_cause words) (Words ∷ Path ∷ Value ∷ Time ∷ [])

-- an event that holds nothing else
abbrev pub metric_event : ℤ → List ℕ → Option (List ℕ) → ℤ → Event
metric_event time service host metric =
    record (event_at time) { service = Some service; host = host; metric = Some metric }

-- the event that three words without a cause say
abbrev pub event_of : Option ℕ → List (List ℕ) → Event
event_of host_part words =
    let path = word_at words 0 in
    metric_event (time_of (word_at words 2)) (service_in host_part path) (host_in host_part path)
    (value_of (word_at words 1))

abbrev pub unless : Option LineWhy → Event → Result (Option Event) LineWhy
unless (Some why) event = Err why
unless None event = Ok (Some event)

-- nothing where there are no words, else why they are refused, else their event
abbrev pub said_by : Option ℕ → List (List ℕ) → Result (Option Event) LineWhy
said_by host_part [] = Ok None
said_by host_part (word ∷ words) = unless (first_cause (word ∷ words)) (event_of host_part (word ∷ words))

-- what a line says
unfoldable pub line_says : Option ℕ → List ℕ → Result (Option Event) LineWhy
line_says host_part line = said_by host_part (words_of line)
