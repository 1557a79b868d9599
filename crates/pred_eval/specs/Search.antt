-- Where a regular expression is found in a text, and from which text a built one was read.
use Rattle.std.specs.Prelude.{◌≡◌, ℕ, Bool, true, false, List, [], ◌∷◌, Option, Some, None, is_some, chars}
use Rattle.regex_compile.specs.Implements.{Implements}
use Rattle.regex_extract.specs.Bounds.{IsAnchored}
use Rattle.regex_hir.specs.Meaning.{meaning}
use Rattle.regex_hir.specs.declared.hir.Hir.{Hir}
use Rattle.regex_syntax.specs.Brackets.{Nested}
use Rattle.regex_syntax.specs.Grammar.{Names, read}
use Rattle.regex.specs.Patterns.{Re, find_str, default_config, Reads}
use Rattle.regex.specs.Strings.{regex_source, regex_config, IsReadFromSource}
use Rattle.regex.specs.declared.string.regex.Regex.{Regex}
use Rattle.pred_eval.specs.declared.finder.States.{States}

-- some part of the text matches what was read; nothing was read where the pattern's text is not valid
abbrev pub is_found : Option (Nested Re × Names) → List ℕ → Bool
is_found None text = false
is_found (Some (re, names)) text = is_some (find_str re.value text 0)

-- the regular expression of the first text is found in the second
abbrev pub finds : List ℕ → List ℕ → Bool
finds pattern text = is_found (read default_config (chars pattern)) text

-- the regular expression is the one of this text, under the default options
pub record IsReadFrom (pattern : List ℕ) (regex : Regex) : Type 0 where
  pub source : regex_source regex ≡ pattern
  pub config : regex_config regex ≡ default_config
  pub read : IsReadFromSource regex

-- the regular expressions are those of the texts, one for each
abbrev pub AreReadFrom : List (List ℕ) → List Regex → Type 0
AreReadFrom [] [] = Unit {0}
AreReadFrom [] (regex ∷ regexes) = ⊥
AreReadFrom (pattern ∷ patterns) [] = ⊥
AreReadFrom (pattern ∷ patterns) (regex ∷ regexes) = IsReadFrom pattern regex × AreReadFrom patterns regexes

-- The states have the matches of the tree that is read in the text. If they are set to match at the start alone, the
-- tree does.
pub record HasMatchesOf (pattern : List ℕ) (states : States) : Type 0 where
  pub tree : Hir
  pub names : Names
  pub read : Reads default_config pattern tree names
  pub same : Implements states.nfa (meaning tree)
  pub anchored : states.at_start ≡ true → IsAnchored true (meaning tree)
