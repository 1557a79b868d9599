-- The lines that are written after a replay: what each link was sent.
use Rattle.std.specs.Prelude.{ℕ, List, [], ◌∷◌, ◌++◌, codes, decimal, fold}
use Rattle.std.specs.BTreeSet.{insert_key}
use Rattle.std.specs.List.{flat_map}
use Rattle.std.specs.Ordering.{nat_cmp}
use Rattle.hex.specs.Hex.{encode_lower}
use Rattle.ports.specs.Playing.{bytes_taken}
use Rattle.ports.specs.declared.entry.Entry.{Entry}
use Rattle.ports.specs.declared.script.LinkEvent.{LinkEvent}
use Rattle.ports.specs.declared.script.LinkEvent.TheVariants.{Opened}
use Rattle.ports.specs.declared.script.Script.{Script}
use Rattle.ports.specs.declared.script.Step.{Step}
use Rattle.ports.specs.declared.script.Step.TheVariants.{Turn, Take, Fail}

-- the number of the link that an event opens
abbrev pub number_opened : LinkEvent → List ℕ
number_opened (Opened link) = link ∷ []
number_opened _ = []

abbrev pub number_in : Step → List ℕ
number_in (Turn secs event) = number_opened event
number_in (Take link count) = []
number_in (Fail link) = []

-- these numbers by rising number, each once
abbrev pub rising : List ℕ → List ℕ
rising numbers = fold (insert_key nat_cmp) [] numbers

-- the numbers of all links that a turn of these lines opens, by rising number, each once
abbrev pub opened_numbers : List Step → List ℕ
opened_numbers steps = rising (flat_map number_in steps)

-- the bytes in lower case after a space, where there are any
abbrev pub taken_text : List ℕ → List ℕ
taken_text [] = []
taken_text (byte ∷ bytes) = 32 ∷ encode_lower (byte ∷ bytes)

abbrev pub link_line : ℕ → List ℕ → List ℕ
link_line number taken = codes "link " ++ (decimal number ++ (taken_text taken ++ 10 ∷ []))

-- the line of a link after these calls
abbrev pub line_after : List Entry → ℕ → List ℕ
line_after log number = link_line number (bytes_taken number log)

-- the lines of all links that the script opens, after these calls
abbrev pub link_lines : Script → List Entry → List ℕ
link_lines script log = flat_map (line_after log) (opened_numbers script.steps)
