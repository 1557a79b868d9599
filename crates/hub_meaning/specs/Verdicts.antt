-- What is reported of the patterns of queries. Which patterns can be built is not known here, so a run has a list of
-- verdicts beside it, in the order of the messages. A message without a verdict had no pattern refused.
use Rattle.std.specs.Prelude.{◌≡◌, ℕ, ◌≤◌, Bool, false, IsTrue, IfSome, is_some, nat_le, if◌then◌else◌, List, [], ◌∷◌}
use Rattle.std.specs.Prelude.{◌++◌, Option, Some, None, slice_get, option_map, option_to_list}
use Rattle.std.specs.List.{flat_map, list_any}
use Rattle.framing.specs.declared.TheConstants.{BODY_LIMIT}
use Rattle.list_laws.specs.Counts.{Rose}
pub use Rattle.pred_eval.specs.Building.{PatternsReport}
use Rattle.pred_eval.specs.Tree.{Tree}
use Rattle.pred_eval.specs.Truth.{searches}
use Rattle.hub_meaning.specs.Messages.{rule_of}

-- the number of the pattern of a query that was refused, and its text
pub record Refusal : Type 0 where
  pub number : ℕ
  pub text : List ℕ

-- a message, and the refusal of a pattern of its query, where there was one
pub record Message : Type 0 where
  pub body : List ℕ
  pub refusal : Option Refusal

-- messages with these bodies and these verdicts
abbrev pub judged : List (List ℕ) → List (Option Refusal) → List Message
judged [] verdicts = []
judged (body ∷ bodies) [] = record { body = body; refusal = None } ∷ judged bodies []
judged (body ∷ bodies) (verdict ∷ verdicts) = record { body = body; refusal = verdict } ∷ judged bodies verdicts

-- a query is refused as busy while at least BODY_LIMIT bytes are unsent
abbrev pub is_busy : ℕ → Bool
is_busy unsent = nat_le BODY_LIMIT unsent

-- the rule whose patterns are built: that of the query, unless the link is busy
abbrev pub built_rule : ℕ → ℕ → List ℕ → Option Tree
built_rule now unsent body = if is_busy unsent then None else rule_of now body

-- the rule that is asked has such a pattern
abbrev pub IsOfRule : Option Tree → Refusal → Type 0
IsOfRule asked refusal =
    (rule : Tree) × (asked ≡ Some rule) × (slice_get (searches rule) refusal.number ≡ Some refusal.text)

-- a refusal is of a pattern of the rule that is asked
abbrev pub IsPossible : ℕ → ℕ → Message → Type 0
IsPossible now unsent message = IfSome message.refusal (IsOfRule (built_rule now unsent message.body))

abbrev pub is_refused : Option Refusal → Bool
is_refused verdict = is_some verdict

abbrev pub refused_text : Refusal → List ℕ
refused_text refusal = refusal.text

-- the texts of the patterns that were refused, in order
abbrev pub texts_refused : List (Option Refusal) → List (List ℕ)
texts_refused = flat_map (λ verdict. option_to_list (option_map refused_text verdict))

-- after these verdicts: it refused exactly the patterns that they name
pub record AfterVerdicts (old new : PatternsReport) (verdicts : List (Option Refusal)) : Type 0 where
  pub reported : new.refused ≡ option_map (λ texts. texts ++ texts_refused verdicts) old.refused
  pub never_falls : old.refusals ≤ new.refusals
  pub rose : IsTrue (list_any is_refused verdicts) → Rose old.refusals new.refusals
  pub still : list_any is_refused verdicts ≡ false → new.refusals ≡ old.refusals
