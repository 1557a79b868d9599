-- A text that is not a script is refused at its first fault.
use Rattle.std.proofs.Common.{◌≡◌, ℕ, ◌+◌, ◌-◌, ◌<◌, ◌≤◌, ◌⊎◌, suc, List, [], ◌∷◌, ◌++◌, length, take, codes, Option}
use Rattle.std.proofs.Common.{Some, None, Result, Ok, Err, refl, sym, ◌∙◌, ap, append-nil, inl, inr, arith}
use Rattle.ports.specs.declared.script.Script.{Script}
use Rattle.ports.specs.declared.script.Step.{Step as ScriptStep}
use Rattle.script_text.specs.declared.line.Line.{Line}
use Rattle.script_text.specs.declared.line.Line.TheVariants.{Skipped, Start, Step}
use Rattle.script_text.specs.Grammar.{AreScript, BeginScript, IsFirstFault, Say, items_of}
use Rattle.script_text.specs.Lines.{line_of, lines_of, two_words}
use Rattle.script_text.specs.Words.{number_of}
use Rattle.script_text.specs.Scripts.{script_from, script_of, start_then, step_then, steps_from, with_start, with_step}
use Rattle.script_text.proofs.SayLemmas.{say_none, say_skipped, say_start, say_step, say_cases}
use Rattle.script_text.proofs.GrammarLaws.{lines_are_one, step_items, step_parts}

-- lines after the start line, of which the one at this place, from 0, is the first that is not valid
record StepsFault (lines : List (List ℕ)) (place : ℕ) : Type 0 where
  inside : place < length lines
  steps : List ScriptStep
  before : Say (take place lines) (step_items steps)
  bad : (more : List (List ℕ)) (steps : List ScriptStep) → Say (take (suc place) lines ++ more) (step_items steps) → ⊥

record FindsSteps (lines : List (List ℕ)) (number found : ℕ) : Type 0 where
  place : ℕ
  same : found ≡ number + place
  is_fault : StepsFault lines place

with_step_err : (step : ScriptStep) (read : Result (List ScriptStep) ℕ) (number : ℕ) → with_step step read ≡ Err number
    → read ≡ Err number
with_step_err step (Ok more) number h = cc
with_step_err step (Err found) number h = cc

with_start_err : (secs : ℕ) (read : Result (List ScriptStep) ℕ) (number : ℕ) → with_start secs read ≡ Err number
    → read ≡ Err number
with_start_err secs (Ok more) number h = cc
with_start_err secs (Err found) number h = cc

-- the first line is not one of steps
bad_step : (line : List ℕ) (more : List (List ℕ)) (steps : List ScriptStep) → (line_of line ≡ Some Skipped → ⊥)
    → ((step : ScriptStep) → line_of line ≡ Some (Step step) → ⊥) → Say (line ∷ more) (step_items steps) → ⊥
bad_step line more steps no_skip no_step s = elim (say_cases line more (step_items steps) s) [
  | inl skipped ↦ no_skip skipped.0
  | inr begun ↦
      let parts = step_parts steps begun.first begun.more begun.whole in
      no_step parts.0 (begun.is_first ∙ ap (λ item. Some item) parts.2)
]

fault_in_steps : (number : ℕ) (line : List ℕ) (lines : List (List ℕ)) (said : Option Line) (found : ℕ)
    → line_of line ≡ said → step_then number said (steps_from (number + 1) lines) ≡ Err found
    → (steps_from (number + 1) lines ≡ Err found → FindsSteps lines (number + 1) found)
    → FindsSteps (line ∷ lines) number found
fault_in_steps number line lines (Some Skipped) found e h rest =
    let r = rest h in let f = r.is_fault in
    record {
      place = suc r.place;
      same = (let s = r.same in omega arith);
      is_fault = record {
        inside = (let i = f.inside in omega arith);
        steps = f.steps;
        before = say_skipped line (take r.place lines) (step_items f.steps) e f.before;
        bad = λ more steps s. elim (say_cases line (take (suc r.place) lines ++ more) (step_items steps) s) [
          | inl skipped ↦ f.bad more steps skipped.1
          | inr begun ↦ let parts = step_parts steps begun.first begun.more begun.whole in
              let same : Some Skipped ≡ Some (Step parts.0) =
              sym e ∙ (begun.is_first ∙ ap (λ item. Some item) parts.2) in
              cc
        ];
      };
    }
fault_in_steps number line lines (Some (Step step)) found e h rest =
    let r = rest (with_step_err step (steps_from (number + 1) lines) found h) in let f = r.is_fault in
    record {
      place = suc r.place;
      same = (let s = r.same in omega arith);
      is_fault = record {
        inside = (let i = f.inside in omega arith);
        steps = step ∷ f.steps;
        before = say_step line (take r.place lines) (step_items f.steps) step e f.before;
        bad = λ more steps s. elim (say_cases line (take (suc r.place) lines ++ more) (step_items steps) s) [
          | inl skipped ↦ let same : Some (Step step) ≡ Some Skipped = sym e ∙ skipped.0 in cc
          | inr begun ↦ let parts = step_parts steps begun.first begun.more begun.whole in
              f.bad more parts.1 (rw parts.3 at begun.rest)
        ];
      };
    }
fault_in_steps number line lines (Some (Start secs)) found e h rest =
    let same : number ≡ found = cc in
    record {
      place = 0;
      same = omega arith;
      is_fault = record {
        inside = omega arith;
        steps = [];
        before = say_none;
        bad = λ more steps s. bad_step line more steps
            (λ i. let same : Some (Start secs) ≡ Some Skipped = sym e ∙ i in cc)
            (λ step i. let same : Some (Start secs) ≡ Some (Step step) = sym e ∙ i in cc) s;
      };
    }
fault_in_steps number line lines None found e h rest =
    let same : number ≡ found = cc in
    record {
      place = 0;
      same = omega arith;
      is_fault = record {
        inside = omega arith;
        steps = [];
        before = say_none;
        bad = λ more steps s. bad_step line more steps
            (λ i. let same : None ≡ Some Skipped = sym e ∙ i in cc)
            (λ step i. let same : None ≡ Some (Step step) = sym e ∙ i in cc) s;
      };
    }

steps_fault : (number : ℕ) (lines : List (List ℕ)) (found : ℕ) → steps_from number lines ≡ Err found
    → FindsSteps lines number found
steps_fault number [] found h = cc
steps_fault number (line ∷ lines) found h =
    fault_in_steps number line lines (line_of line) found refl h (λ i. steps_fault (number + 1) lines found i)

-- lines with no start line before them
record LinesFault (lines : List (List ℕ)) (place : ℕ) : Type 0 where
  inside : place ≤ length lines
  before : Say (take place lines) [] ⊎ ((script : Script) × AreScript (take place lines) script)
  bad : place < length lines → (more : List (List ℕ)) (script : Script)
      → AreScript (take (suc place) lines ++ more) script → ⊥

record FindsFault (lines : List (List ℕ)) (number found : ℕ) : Type 0 where
  place : ℕ
  same : found ≡ number + place
  is_fault : LinesFault lines place

-- the first line is not one of a script
bad_start : (line : List ℕ) (more : List (List ℕ)) (script : Script) → (line_of line ≡ Some Skipped → ⊥)
    → ((secs : ℕ) → line_of line ≡ Some (Start secs) → ⊥) → AreScript (line ∷ more) script → ⊥
bad_start line more script no_skip no_start s = elim (say_cases line more (items_of script) s) [
  | inl skipped ↦ no_skip skipped.0
  | inr begun ↦ let first : begun.first ≡ Start script.start = (let w = begun.whole in cc) in
      no_start script.start (begun.is_first ∙ ap (λ item. Some item) first)
]

fault_in_start : (number : ℕ) (line : List ℕ) (lines : List (List ℕ)) (said : Option Line) (found : ℕ)
    → line_of line ≡ said
    → start_then number said (steps_from (number + 1) lines) (script_from (number + 1) lines) ≡ Err found
    → (script_from (number + 1) lines ≡ Err found → FindsFault lines (number + 1) found)
    → FindsFault (line ∷ lines) number found
fault_in_start number line lines (Some Skipped) found e h rest =
    let r = rest h in let f = r.is_fault in
    record {
      place = suc r.place;
      same = (let s = r.same in omega arith);
      is_fault = record {
        inside = (let i = f.inside in omega arith);
        before = elim f.before [
          | inl nothing ↦ inl (say_skipped line (take r.place lines) [] e nothing)
          | inr some ↦ inr (some.0, say_skipped line (take r.place lines) (items_of some.0) e some.1)
        ];
        bad = λ i more script s. elim (say_cases line (take (suc r.place) lines ++ more) (items_of script) s) [
          | inl skipped ↦ f.bad (omega arith) more script skipped.1
          | inr begun ↦ let first : begun.first ≡ Start script.start = (let w = begun.whole in cc) in
              let same : Some Skipped ≡ Some (Start script.start) =
              sym e ∙ (begun.is_first ∙ ap (λ item. Some item) first) in
              cc
        ];
      };
    }
fault_in_start number line lines (Some (Start secs)) found e h rest =
    let r = steps_fault (number + 1) lines found (with_start_err secs (steps_from (number + 1) lines) found h) in
    let f = r.is_fault in
    record {
      place = suc r.place;
      same = (let s = r.same in omega arith);
      is_fault = record {
        inside = (let i = f.inside in omega arith);
        before =
            inr (
              record { start = secs; steps = f.steps },
              say_start line (take r.place lines) (step_items f.steps) secs e f.before,
            );
        bad = λ i more script s. elim (say_cases line (take (suc r.place) lines ++ more) (items_of script) s) [
          | inl skipped ↦ let same : Some (Start secs) ≡ Some Skipped = sym e ∙ skipped.0 in cc
          | inr begun ↦ let tail : begun.more ≡ step_items script.steps = (let w = begun.whole in cc) in
              f.bad more script.steps (rw tail at begun.rest)
        ];
      };
    }
fault_in_start number line lines (Some (Step step)) found e h rest =
    let same : number ≡ found = cc in
    record {
      place = 0;
      same = omega arith;
      is_fault = record {
        inside = omega arith;
        before = inl say_none;
        bad = λ i more script s. bad_start line more script
            (λ j. let same : Some (Step step) ≡ Some Skipped = sym e ∙ j in cc)
            (λ secs j. let same : Some (Step step) ≡ Some (Start secs) = sym e ∙ j in cc) s;
      };
    }
fault_in_start number line lines None found e h rest =
    let same : number ≡ found = cc in
    record {
      place = 0;
      same = omega arith;
      is_fault = record {
        inside = omega arith;
        before = inl say_none;
        bad = λ i more script s. bad_start line more script
            (λ j. let same : None ≡ Some Skipped = sym e ∙ j in cc)
            (λ secs j. let same : None ≡ Some (Start secs) = sym e ∙ j in cc) s;
      };
    }

lines_fault : (number : ℕ) (lines : List (List ℕ)) (found : ℕ) → script_from number lines ≡ Err found
    → FindsFault lines number found
lines_fault number [] found h =
    let same : number ≡ found = cc in
    record {
      place = 0;
      same = omega arith;
      is_fault = record {
        inside = omega arith;
        before = inl say_none;
        bad = λ i more script s. absurd (omega arith);
      };
    }
lines_fault number (line ∷ lines) found h =
    fault_in_start number line lines (line_of line) found refl h (λ i. lines_fault (number + 1) lines found i)

-- skipped lines go on as a script
start_zero : line_of (codes "start 0") ≡ Some (Start 0)
unfolding line_of two_words number_of
start_zero = refl

say_started : (lines : List (List ℕ)) → Say lines [] → Say (lines ++ codes "start 0" ∷ []) (Start 0 ∷ [])
say_started [] s = say_start (codes "start 0") [] [] 0 start_zero say_none
say_started (line ∷ lines) s = elim (say_cases line lines [] s) [
  | inl skipped ↦
      say_skipped line (lines ++ codes "start 0" ∷ []) (Start 0 ∷ []) skipped.0 (say_started lines skipped.1)
  | inr begun ↦ let w = begun.whole in cc
]

begin_script : (lines : List (List ℕ)) → Say lines [] ⊎ ((script : Script) × AreScript lines script) → BeginScript lines
begin_script lines (inl nothing) = (codes "start 0" ∷ [], record { start = 0; steps = [] }, say_started lines nothing)
begin_script lines (inr some) = ([], some.0, rw append-nil some.1)

first_fault : (lines : List (List ℕ)) (number : ℕ) → script_from 1 lines ≡ Err number → FindsFault lines 1 number
    → IsFirstFault lines number
first_fault lines number h r =
    let f = r.is_fault in
    let same : number - 1 ≡ r.place = (let s = r.same in omega arith) in
    let next : number ≡ suc r.place = (let s = r.same in omega arith) in
    record {
      positive = omega arith;
      within = (let i = f.inside in omega arith);
      before = rw same (begin_script (take r.place lines) f.before);
      fault = λ i begun. f.bad (omega arith) begun.0 begun.1 (rw next at begun.2);
      missing =
          λ script s. let ok = lines_are_one 1 lines script s in let e : Ok script ≡ Err number = sym ok ∙ h in cc;
    }

pub faults_are_first : (text : List ℕ) (number : ℕ) → script_of text ≡ Err number → IsFirstFault (lines_of text) number
faults_are_first text number h = first_fault (lines_of text) number h (lines_fault 1 (lines_of text) number h)
