-- A text is a script exactly where its lines are.
use Rattle.std.proofs.Common.{◌≡◌, ℕ, ◌+◌, List, [], ◌∷◌, map, Option, Some, None, Result, Ok, Err, refl, sym, ◌∙◌, ap}
use Rattle.std.proofs.Common.{inl, inr}
use Rattle.ports.specs.declared.script.Script.{Script}
use Rattle.ports.specs.declared.script.Step.{Step as ScriptStep}
use Rattle.script_text.specs.declared.line.Line.{Line}
use Rattle.script_text.specs.declared.line.Line.TheVariants.{Skipped, Start, Step}
use Rattle.script_text.specs.Grammar.{AreScript, Say, items_of}
use Rattle.script_text.specs.Lines.{line_of, lines_of}
use Rattle.script_text.specs.Scripts.{script_from, script_of, start_then, step_then, steps_from, with_start, with_step}
use Rattle.script_text.proofs.SayLemmas.{say_none, say_nothing, say_skipped, say_start, say_step, say_cases}

abbrev pub step_items : List ScriptStep → List Line
step_items steps = map (λ step. Step step) steps

-- a result that has a step more than the other
with_step_ok : (step : ScriptStep) (read : Result (List ScriptStep) ℕ) (steps : List ScriptStep)
    → with_step step read ≡ Ok steps
    → (more : List ScriptStep) × (read ≡ Ok more) × (steps ≡ step ∷ more)
with_step_ok step (Ok more) steps h = (more, refl, cc)
with_step_ok step (Err number) steps h = cc

with_start_ok : (secs : ℕ) (read : Result (List ScriptStep) ℕ) (script : Script) → with_start secs read ≡ Ok script
    → read ≡ Ok script.steps × (secs ≡ script.start)
with_start_ok secs (Ok more) script h =
    let e : record { start = secs; steps = more } ≡ script = cc in
    (ap (λ (s : Script). Ok s.steps) e, ap (λ (s : Script). s.start) e)
with_start_ok secs (Err number) script h = cc

first_step : (number : ℕ) (line : List ℕ) (lines : List (List ℕ)) (said : Option Line) (steps : List ScriptStep)
    → line_of line ≡ said → step_then number said (steps_from (number + 1) lines) ≡ Ok steps
    → ((more : List ScriptStep) → steps_from (number + 1) lines ≡ Ok more → Say lines (step_items more))
    → Say (line ∷ lines) (step_items steps)
first_step number line lines (Some Skipped) steps e h rest = say_skipped line lines (step_items steps) e (rest steps h)
first_step number line lines (Some (Step step)) steps e h rest =
    let parts = with_step_ok step (steps_from (number + 1) lines) steps h in
    rw parts.2 (say_step line lines (step_items parts.0) step e (rest parts.0 parts.1))
first_step number line lines (Some (Start secs)) steps e h rest = cc
first_step number line lines None steps e h rest = cc

-- lines after the start line
pub steps_found : (number : ℕ) (lines : List (List ℕ)) (steps : List ScriptStep) → steps_from number lines ≡ Ok steps
    → Say lines (step_items steps)
steps_found number [] steps h = let none : [] ≡ steps = cc in rw (← none) say_none
steps_found number (line ∷ lines) steps h =
    first_step number line lines (line_of line) steps refl h (λ more i. steps_found (number + 1) lines more i)

first_start : (number : ℕ) (line : List ℕ) (lines : List (List ℕ)) (said : Option Line) (script : Script)
    → line_of line ≡ said
    → start_then number said (steps_from (number + 1) lines) (script_from (number + 1) lines) ≡ Ok script
    → (script_from (number + 1) lines ≡ Ok script → AreScript lines script)
    → AreScript (line ∷ lines) script
first_start number line lines (Some Skipped) script e h rest = say_skipped line lines (items_of script) e (rest h)
first_start number line lines (Some (Start secs)) script e h rest =
    let parts = with_start_ok secs (steps_from (number + 1) lines) script h in
    rw (← parts.1)
    (say_start line lines (step_items script.steps) secs e (steps_found (number + 1) lines script.steps parts.0))
first_start number line lines (Some (Step step)) script e h rest = cc
first_start number line lines None script e h rest = cc

pub lines_found : (number : ℕ) (lines : List (List ℕ)) (script : Script) → script_from number lines ≡ Ok script
    → AreScript lines script
lines_found number [] script h = cc
lines_found number (line ∷ lines) script h =
    first_start number line lines (line_of line) script refl h (λ i. lines_found (number + 1) lines script i)

-- the other way
pub step_parts : (steps : List ScriptStep) (first : Line) (more : List Line) → step_items steps ≡ first ∷ more
    → (step : ScriptStep) × (rest : List ScriptStep) × (first ≡ Step step) × (more ≡ step_items rest)
    × (steps ≡ step ∷ rest)
step_parts [] first more h = cc
step_parts (step ∷ rest) first more h = (step, rest, cc, cc, refl)

pub steps_are_one : (number : ℕ) (lines : List (List ℕ)) (steps : List ScriptStep) → Say lines (step_items steps)
    → steps_from number lines ≡ Ok steps
steps_are_one number [] [] s = refl
steps_are_one number [] (step ∷ steps) s = let none = say_nothing (step_items (step ∷ steps)) s in cc
steps_are_one number (line ∷ lines) steps s = elim (say_cases line lines (step_items steps) s) [
  | inl skipped ↦
      ap (λ said. step_then number said (steps_from (number + 1) lines)) skipped.0
      ∙ steps_are_one (number + 1) lines steps skipped.1
  | inr begun ↦
      let parts = step_parts steps begun.first begun.more begun.whole in
      let rest : Say lines (step_items parts.1) = rw parts.3 at begun.rest in
      ap (λ said. step_then number said (steps_from (number + 1) lines))
      (begun.is_first ∙ ap (λ item. Some item) parts.2)
      ∙ (ap (with_step parts.0) (steps_are_one (number + 1) lines parts.1 rest) ∙ ap (λ steps. Ok steps) (sym parts.4))
]

pub lines_are_one : (number : ℕ) (lines : List (List ℕ)) (script : Script) → AreScript lines script
    → script_from number lines ≡ Ok script
lines_are_one number [] script s = let none = say_nothing (items_of script) s in cc
lines_are_one number (line ∷ lines) script s = elim (say_cases line lines (items_of script) s) [
  | inl skipped ↦
      ap (λ said. start_then number said (steps_from (number + 1) lines) (script_from (number + 1) lines)) skipped.0
      ∙ lines_are_one (number + 1) lines script skipped.1
  | inr begun ↦
      let first : begun.first ≡ Start script.start = cc in
      let more : begun.more ≡ step_items script.steps = cc in
      let rest : Say lines (step_items script.steps) = rw more at begun.rest in
      ap (λ said. start_then number said (steps_from (number + 1) lines) (script_from (number + 1) lines))
      (begun.is_first ∙ ap (λ item. Some item) first)
      ∙ ap (with_start script.start) (steps_are_one (number + 1) lines script.steps rest)
]

pub scripts_found : (text : List ℕ) (script : Script) → script_of text ≡ Ok script → AreScript (lines_of text) script
scripts_found text script h = lines_found 1 (lines_of text) script h

pub scripts_are_one : (text : List ℕ) (script : Script) → AreScript (lines_of text) script → script_of text ≡ Ok script
scripts_are_one text script s = lines_are_one 1 (lines_of text) script s
