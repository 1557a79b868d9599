-- Which lines are a script, and where the first fault of others is, said of all lines at once.
use Rattle.std.specs.Prelude.{◌≡◌, ℕ, ◌+◌, ◌-◌, ◌<◌, ◌≤◌, Bool, true, false, List, ◌∷◌, ◌++◌, map, filter, take, length}
use Rattle.std.specs.Prelude.{Some, Ok, Err}
use Rattle.ports.specs.declared.script.Script.{Script}
use Rattle.script_text.specs.declared.line.Line.{Line}
use Rattle.script_text.specs.declared.line.Line.TheVariants.{Skipped, Start, Step}
use Rattle.script_text.specs.Lines.{line_of, lines_of}
use Rattle.script_text.specs.Scripts.{script_of}

abbrev pub is_said : Line → Bool
is_said Skipped = false
is_said (Start secs) = true
is_said (Step step) = true

-- each of the lines is valid, and without those that are skipped they say this
pub record Say (lines : List (List ℕ)) (items : List Line) : Type 0 where
  pub said : List Line
  pub valid : map line_of lines ≡ map (λ item. Some item) said
  pub kept : filter is_said said ≡ items

-- the start line comes first, and after it come the steps
abbrev pub items_of : Script → List Line
items_of script = Start script.start ∷ map (λ step. Step step) script.steps

abbrev pub AreScript : List (List ℕ) → Script → Type 0
AreScript lines script = Say lines (items_of script)

-- the lines are the first of a script
abbrev pub BeginScript : List (List ℕ) → Type 0
BeginScript lines = (more : List (List ℕ)) × (script : Script) × AreScript (lines ++ more) script

-- The lines before the one of this number begin a script, and together with it they do not. Where there is no line of
-- this number, it is the next one.
pub record IsFirstFault (lines : List (List ℕ)) (number : ℕ) : Type 0 where
  pub positive : 0 < number
  pub within : number ≤ length lines + 1
  pub before : BeginScript (take (number - 1) lines)
  pub fault : number ≤ length lines → BeginScript (take number lines) → ⊥
  pub missing : (script : Script) → AreScript lines script → ⊥

-- a text is a script exactly where its lines are
abbrev pub ScriptsAreFound : Type 0
ScriptsAreFound = (text : List ℕ) (script : Script) → script_of text ≡ Ok script → AreScript (lines_of text) script

abbrev pub ScriptsAreOne : Type 0
ScriptsAreOne = (text : List ℕ) (script : Script) → AreScript (lines_of text) script → script_of text ≡ Ok script

abbrev pub FaultsAreFirst : Type 0
FaultsAreFirst = (text : List ℕ) (number : ℕ) → script_of text ≡ Err number → IsFirstFault (lines_of text) number
