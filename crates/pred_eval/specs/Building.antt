-- What the building of regular expressions answers, counts and records.
use Rattle.std.specs.Prelude.{◌≡◌, ◌≢◌, ℕ, ◌+◌, ◌<◌, ◌≤◌, List, [], ◌∷◌, length, map, slice_index_or, Option, Result, Ok, Err}
use denote.Ref.{Bor}
use Rattle.list_laws.specs.Counts.{Rose}
use Rattle.regex.specs.Failures.{IsPattern}
use Rattle.regex.specs.Strings.{regex_size}
use Rattle.regex.specs.declared.error.Error.{Error}
use Rattle.regex.specs.declared.error.Error.TheVariants.{Syntax, CompiledTooBig, Internal, OutOfMemory}
use Rattle.regex_syntax.specs.Verdict.{Refuses, default_config}
use Rattle.regex_syntax.specs.declared.error.ErrorKind.TheVariants as kind
use Rattle.pred_eval.specs.declared.patterns.PatternAnswer.{PatternAnswer}
use Rattle.pred_eval.specs.declared.patterns.PatternAnswer.TheVariants.{Built, Refused, Memory}
use Rattle.pred_eval.specs.declared.patterns.BuildFault.{BuildFault}
use Rattle.pred_eval.specs.declared.patterns.BuildFault.TheVariants.{Pattern, Memory as out_of_memory}
use Rattle.pred_eval.specs.Search.{IsReadFrom}

-- what the object that builds patterns reports of itself
pub record PatternsReport : Type 0 where
  -- how many texts were refused
  pub refusals : ℕ
  -- which, where they are known
  pub refused : Option (List (List ℕ))

-- This error of the crate `regex` is a cause to refuse the text: the grammar does not read it, or it is nested too
-- deep, or it is a pattern, and its program is too big. Which patterns have too big a program is not said. That memory
-- ran out is no cause.
abbrev pub IsCause : List ℕ → Error → Type 0
IsCause pattern (Syntax error) = (error.kind ≢ kind.OutOfMemory) × Refuses default_config pattern error.kind
IsCause pattern CompiledTooBig = IsPattern default_config pattern
IsCause pattern Internal = ⊥
IsCause pattern OutOfMemory = ⊥

-- there is such a cause
abbrev pub IsRefused : List ℕ → Type 0
IsRefused pattern = (error : Error) × IsCause pattern error

-- what was built is the regular expression of the text, or there is a cause to refuse it
abbrev pub IsAnswerTo : List ℕ → PatternAnswer → Type 0
IsAnswerTo pattern (Built regex) = IsReadFrom pattern regex
IsAnswerTo pattern Refused = IsRefused pattern
IsAnswerTo pattern Memory = Unit {0}

-- The program of what was built has at most 65,536 bytes, and what the crate `regex` adds to each.
abbrev pub IsSmall : PatternAnswer → Type 0
IsSmall (Built regex) = regex_size regex ≤ 65536 + 24
IsSmall Refused = Unit {0}
IsSmall Memory = Unit {0}

-- only a refusal is counted
abbrev pub IsCounted : ℕ → ℕ → PatternAnswer → Type 0
IsCounted old new (Built regex) = new ≡ old
IsCounted old new Refused = Rose old new
IsCounted old new Memory = new ≡ old

-- the texts that one answer adds to those refused
abbrev pub refused_by : List ℕ → PatternAnswer → List (List ℕ)
refused_by pattern (Built regex) = []
refused_by pattern Refused = pattern ∷ []
refused_by pattern Memory = []

-- texts that are lent
abbrev pub texts_of : List (Bor (List ℕ)) → List (List ℕ)
texts_of = map (λ text. text.now)

-- Why patterns with these texts were not all built: one of them, by its number from 0, was refused, and counted.
-- Nothing else is counted.
abbrev pub HasCause : {T : Type 0} → List (List ℕ) → ℕ → ℕ → Result T BuildFault → Type 0
HasCause texts old new (Ok built) = new ≡ old
HasCause texts old new (Err (Pattern number)) = (number < length texts) × Rose old new
HasCause texts old new (Err out_of_memory) = new ≡ old

-- the texts that the building of these adds to those refused: that of the number which it names
abbrev pub refused_of : {T : Type 0} → List (List ℕ) → Result T BuildFault → List (List ℕ)
refused_of texts (Ok built) = []
refused_of texts (Err (Pattern number)) = slice_index_or texts number [] ∷ []
refused_of texts (Err out_of_memory) = []
