-- Which texts are scripts, and the first line that is not valid in the others.
use Rattle.std.specs.Prelude.{◌≡◌, ℕ, ◌+◌, List, [], ◌∷◌, Option, Some, None, Result, Ok, Err}
use Rattle.ports.specs.declared.script.Script.{Script}
use Rattle.ports.specs.declared.script.Step.{Step}
use Rattle.script_text.specs.declared.line.Line.{Line}
use Rattle.script_text.specs.declared.line.Line.TheVariants as line
use Rattle.script_text.specs.declared.read.ScriptFault.{ScriptFault}
use Rattle.script_text.specs.declared.read.ScriptFault.TheVariants.{Refused, Memory}
use Rattle.script_text.specs.Lines.{LinesAt, line_of, lines_of}

-- Below, `number` is the number of the first of the lines. A result is what the lines say, or the number of the first
-- line that is not valid.

abbrev pub with_step : Step → Result (List Step) ℕ → Result (List Step) ℕ
with_step step (Ok steps) = Ok (step ∷ steps)
with_step step (Err number) = Err number

abbrev pub with_start : ℕ → Result (List Step) ℕ → Result Script ℕ
with_start secs (Ok steps) = Ok (record { start = secs; steps = steps })
with_start secs (Err number) = Err number

-- A line after the start line, and those after it. It is not valid where it is a start line.
abbrev pub step_then : ℕ → Option Line → Result (List Step) ℕ → Result (List Step) ℕ
step_then number (Some line.Skipped) more = more
step_then number (Some (line.Step step)) more = with_step step more
step_then number (Some (line.Start secs)) more = Err number
step_then number None more = Err number

-- lines after the start line
abbrev pub steps_from : ℕ → List (List ℕ) → Result (List Step) ℕ
steps_from number [] = Ok []
steps_from number (line ∷ lines) = step_then number (line_of line) (steps_from (number + 1) lines)

-- A line with no start line before it, and those after it: as they are after a start line, and as they are where none
-- came. It is not valid where it is neither skipped nor a start line.
abbrev pub start_then : ℕ → Option Line → Result (List Step) ℕ → Result Script ℕ → Result Script ℕ
start_then number (Some line.Skipped) steps script = script
start_then number (Some (line.Start secs)) steps script = with_start secs steps
start_then number (Some (line.Step step)) steps script = Err number
start_then number None steps script = Err number

-- lines with no start line before them
abbrev pub script_from : ℕ → List (List ℕ) → Result Script ℕ
script_from number [] = Err number
script_from number (line ∷ lines) =
    start_then number (line_of line) (steps_from (number + 1) lines) (script_from (number + 1) lines)

-- the script that a text is, or the number of its first line that is not valid, from 1
abbrev pub script_of : List ℕ → Result Script ℕ
script_of text = script_from 1 (lines_of text)

-- the call failed for this line, or is out of memory
abbrev pub Fails : {X : Type 0} → ScriptFault → Result X ℕ → Type 0
Fails Memory read = Unit {0}
Fails (Refused number) read = read ≡ Err number

-- The call read lines up to the start line.
abbrev pub GivesStart : Result ℕ ScriptFault → LinesAt → LinesAt → Type 0
GivesStart (Ok secs) before after =
    script_from (before.passed + 1) before.lines ≡ with_start secs (steps_from (after.passed + 1) after.lines)
GivesStart (Err fault) before after = Fails fault (script_from (before.passed + 1) before.lines)

abbrev pub GivesSteps : Result (List Step) ScriptFault → Result (List Step) ℕ → Type 0
GivesSteps (Ok steps) read = read ≡ Ok steps
GivesSteps (Err fault) read = Fails fault read
