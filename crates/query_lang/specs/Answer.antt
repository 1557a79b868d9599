-- The one answer to a text, found by taking its tokens one after the other.
use Rattle.std.specs.Prelude.{◌≡◌, ℕ, zero, suc, ◌-◌, ◌≤◌, nat_lt, if◌then◌else◌, List, [], ◌∷◌, length, Option, Some}
use Rattle.std.specs.Prelude.{None, Result, Ok, Err}
use Rattle.pred_eval.specs.Tree.{Tree}
use Rattle.pred_eval.specs.Truth.{searches}
use Rattle.query_lang.specs.declared.read.TheConstants.{MAX_BYTES}
use Rattle.query_lang.specs.declared.fault.QueryFault.{QueryFault}
use Rattle.query_lang.specs.declared.fault.QueryFault.TheVariants.{TooLong, Refused}
use Rattle.query_lang.specs.Tokens.{past_blanks, token_at}
use Rattle.query_lang.specs.Parsing.{State, start, finish}
use Rattle.query_lang.specs.Queries.{IsAnswer}
use Rattle.query_lang.specs.Reading.{taken}

-- at the end of a text of this many bytes
abbrev pub ended_at : ℕ → Option Tree → Result Tree QueryFault
ended_at size None = Err (Refused size)
ended_at size (Some tree) = Ok tree

abbrev pub and_then : Result (State × List ℕ) QueryFault → (State → List ℕ → Result Tree QueryFault)
    → Result Tree QueryFault
and_then (Ok found) go = go found.0 found.1
and_then (Err fault) go = Err fault

-- from a state on, with what is left of a text of this many bytes, which has at most n tokens
unfoldable pub answer_within : ℕ → ℕ → State → List ℕ → Result Tree QueryFault
answer_within n size state [] = ended_at size (finish state)
answer_within zero size state (b ∷ bytes) = Err (Refused size)
answer_within (suc n) size state (b ∷ bytes) =
    and_then (taken (size - length (b ∷ bytes)) state (token_at (b ∷ bytes))) (answer_within n size)

unfoldable pub query_of : List ℕ → Result Tree QueryFault
query_of text =
    if nat_lt MAX_BYTES (length text) then Err (TooLong (length text))
    else answer_within (length text) (length text) start (past_blanks text)

abbrev pub TextsAreAnswered : Type 0
TextsAreAnswered = (text : List ℕ) → IsAnswer text (query_of text)

abbrev pub AnswersAreOne : Type 0
AnswersAreOne =
    (text : List ℕ) (answer other : Result Tree QueryFault) → IsAnswer text answer → IsAnswer text other
    → answer ≡ other

-- a query has no more patterns than bytes
abbrev pub PatternsAreFew : Type 0
PatternsAreFew = (text : List ℕ) (tree : Tree) → IsAnswer text (Ok tree) → length (searches tree) ≤ MAX_BYTES
