-- How a text is taken token by token.
use Rattle.std.specs.Prelude.{◌≡◌, ℕ, List, Option, Some, None, Result, Ok, Err}
use Rattle.std.specs.Borrow.{Bor}
use Rattle.pred_eval.specs.declared.rule.Rule.{Rule}
use Rattle.pred_eval.specs.Tree.{tree_of}
use Rattle.query_lang.specs.declared.fault.QueryFault.{QueryFault}
use Rattle.query_lang.specs.declared.fault.QueryFault.TheVariants.{TooLong, Refused, TooDeep, Memory}
use Rattle.query_lang.specs.declared.token.Token.{Token}
use Rattle.query_lang.specs.Tokens.{past_blanks}
use Rattle.query_lang.specs.Parsing.{State, step, within_limit}
use Rattle.query_lang.specs.Queries.{IsQueryText, IsRefusedAt, IsTooDeepAt}

abbrev pub with_rest : List ℕ → Result State QueryFault → Result (State × List ℕ) QueryFault
with_rest rest (Ok state) = Ok (state, rest)
with_rest rest (Err fault) = Err fault

-- the state after what was read at the place, and the bytes from the next token on
abbrev pub taken : ℕ → State → Option (Token × List ℕ) → Result (State × List ℕ) QueryFault
taken place state None = Err (Refused place)
taken place state (Some found) = with_rest (past_blanks found.1) (within_limit place (step state found.0))

-- a call left the state and the bytes so, or answered the fault
abbrev pub Takes : Result (Bor (List ℕ)) QueryFault → State → Result (State × List ℕ) QueryFault → Type 0
Takes (Ok rest) state wanted = wanted ≡ Ok (state, rest.now)
Takes (Err Memory) state wanted = Unit {0}
Takes (Err fault) state wanted = wanted ≡ Err fault

-- what a call answers to a text that is not too long
abbrev pub Parses : List ℕ → Result Rule QueryFault → Type 0
Parses text (Ok rule) = IsQueryText text (tree_of rule)
Parses text (Err (Refused place)) = IsRefusedAt text place
Parses text (Err (TooDeep place)) = IsTooDeepAt text place
Parses text (Err (TooLong size)) = ⊥
Parses text (Err Memory) = Unit {0}
