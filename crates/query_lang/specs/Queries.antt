-- Which texts are queries, and where and why the others are refused.
use Rattle.std.specs.Prelude.{◌≡◌, ℕ, ◌+◌, ◌<◌, ◌≤◌, List, [], ◌∷◌, ◌++◌, length, Option, Some, None, Result, Ok, Err}
use Rattle.std.specs.List.{count_by}
use Rattle.pred_eval.specs.declared.rule.Rule.{Rule}
use Rattle.pred_eval.specs.Tree.{Tree, tree_of}
use Rattle.query_lang.specs.declared.read.TheConstants.{MAX_BYTES}
use Rattle.query_lang.specs.declared.parser.TheConstants.{MAX_OPENINGS}
use Rattle.query_lang.specs.declared.fault.QueryFault.{QueryFault}
use Rattle.query_lang.specs.declared.fault.QueryFault.TheVariants.{TooLong, Refused, TooDeep, Memory}
use Rattle.query_lang.specs.declared.token.Token.{Token}
use Rattle.query_lang.specs.Tokens.{past_blanks, token_at}
use Rattle.query_lang.specs.Grammar.{IsQuery, IsQueryPrefix, is_opening}

-- the text begins with the tokens, and after them and the blanks there are these bytes
abbrev pub Begins : List ℕ → List Token → List ℕ → Type 0
Begins text [] rest = past_blanks text ≡ rest
Begins text (token ∷ tokens) rest =
    (after : List ℕ) × (token_at (past_blanks text) ≡ Some (token, after)) × Begins after tokens rest

-- how many tokens are `(` or `not`
abbrev pub openings : List Token → ℕ
openings = count_by is_opening

-- the text is a query, which represents the tree
pub record IsQueryText (text : List ℕ) (tree : Tree) : Type 0 where
  pub tokens : List Token
  pub text_is : Begins text tokens []
  pub query : IsQuery tokens tree
  pub few : openings tokens ≤ MAX_OPENINGS

-- no query begins with the tokens and goes on with what comes there: a token, what is not a token, or the end of the
-- text
abbrev pub StopsAtToken : List Token → Option (Token × List ℕ) → Type 0
StopsAtToken tokens None = Unit {0}
StopsAtToken tokens (Some found) = IsQueryPrefix (tokens ++ found.0 ∷ []) → ⊥

abbrev pub Stops : List Token → List ℕ → Type 0
Stops tokens [] = (tree : Tree) → IsQuery tokens tree → ⊥
Stops tokens (b ∷ bytes) = StopsAtToken tokens (token_at (b ∷ bytes))

-- the tokens before the place are a prefix of a query, and it goes on no further
pub record IsRefusedAt (text : List ℕ) (place : ℕ) : Type 0 where
  pub tokens : List Token
  pub rest : List ℕ
  pub begins : Begins text tokens rest
  pub at : place + length rest ≡ length text
  pub front : IsQueryPrefix tokens
  pub few : openings tokens ≤ MAX_OPENINGS
  pub stops : Stops tokens rest

-- at the place is one `(` or `not` more than the 64 before it, and a query may go on with it
pub record IsTooDeepAt (text : List ℕ) (place : ℕ) : Type 0 where
  pub tokens : List Token
  pub rest : List ℕ
  pub after : List ℕ
  pub token : Token
  pub begins : Begins text tokens rest
  pub at : place + length rest ≡ length text
  pub read : token_at rest ≡ Some (token, after)
  pub front : IsQueryPrefix (tokens ++ token ∷ [])
  pub full : openings tokens ≡ MAX_OPENINGS
  pub deep : openings (tokens ++ token ∷ []) ≡ MAX_OPENINGS + 1

-- what is to be answered to a text: the tree of the query that it is, or why it is not a query. No text is answered by
-- Memory.
abbrev pub IsAnswer : List ℕ → Result Tree QueryFault → Type 0
IsAnswer text (Ok tree) = (length text ≤ MAX_BYTES) × IsQueryText text tree
IsAnswer text (Err (TooLong size)) = (MAX_BYTES < length text) × (size ≡ length text)
IsAnswer text (Err (Refused place)) = (length text ≤ MAX_BYTES) × IsRefusedAt text place
IsAnswer text (Err (TooDeep place)) = (length text ≤ MAX_BYTES) × IsTooDeepAt text place
IsAnswer text (Err Memory) = ⊥

-- a call answers so, or is out of memory
abbrev pub Agrees : Result Rule QueryFault → Result Tree QueryFault → Type 0
Agrees (Ok rule) answer = answer ≡ Ok (tree_of rule)
Agrees (Err Memory) answer = Unit {0}
Agrees (Err fault) answer = answer ≡ Err fault
