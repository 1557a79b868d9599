-- That each text has its answer, and how many patterns a query has.
use Rattle.std.proofs.Common.{◌≡◌, ℕ, zero, suc, ◌+◌, ◌-◌, ◌<◌, ◌≤◌, Bool, true, false, cond, ltb, List, [], ◌∷◌, ◌++◌}
use Rattle.std.proofs.Common.{length, Option, Some, None, Result, Ok, Err, refl, ap, sym, ◌∙◌, subst, arith}
use Rattle.std.proofs.Common.{length-append}
use Rattle.std.proofs.lemmas.Bool.Decides.{nat_tests}
use Rattle.ev_types.specs.declared.field.Field.{Field}
use Rattle.pred_eval.specs.Tree.{Tree, Trees, Always, Never, Not, All, Any, Tagged, none, also}
use Rattle.pred_eval.specs.Truth.{searches, searches_of}
use Rattle.query_lang.specs.declared.read.TheConstants.{MAX_BYTES}
use Rattle.query_lang.specs.declared.parser.TheConstants.{MAX_OPENINGS}
use Rattle.query_lang.specs.declared.fault.QueryFault.{QueryFault}
use Rattle.query_lang.specs.declared.fault.QueryFault.TheVariants.{TooLong, Refused, TooDeep, Memory}
use Rattle.query_lang.specs.declared.token.Operator.{Operator}
use Rattle.query_lang.specs.declared.token.Operator.TheVariants as operator
use Rattle.query_lang.specs.declared.token.Token.{Token}
use Rattle.query_lang.specs.declared.token.Token.TheVariants as token
use Rattle.query_lang.specs.Answer.{ended_at, and_then, answer_within, query_of}
use Rattle.query_lang.specs.Grammar.{test_of, any_of, all_of, listed, IsAny, IsAll, IsOne, one_alternative}
use Rattle.query_lang.specs.Grammar.{more_alternatives, one_part, more_parts, negated, grouped, always, never, nothing}
use Rattle.query_lang.specs.Grammar.{tagged, test}
use Rattle.query_lang.specs.Parsing.{State, start, step, finish, within_limit}
use Rattle.query_lang.specs.Queries.{Begins, IsAnswer}
use Rattle.query_lang.specs.Reading.{taken, with_rest, Parses}
use Rattle.query_lang.specs.Tokens.{past_blanks, token_at}
use Rattle.query_lang.proofs.AnswerLaws.{reads_err}
use Rattle.query_lang.proofs.ParserLaws.{parsed_is_query, ended}
use Rattle.query_lang.proofs.ReadLaws.{SoFar, at_front, so_far_more, so_far_fault, so_far_end, following_shorter}
use Rattle.query_lang.proofs.ScanLaws.{after_shorter, blanks_shorter}

-- ---- the answer

end_is_answer : (text : List ℕ) (state : State) → length text ≤ MAX_BYTES → SoFar text [] state → (found : Option Tree)
    → finish state ≡ found → IsAnswer text (ended_at (length text) found)
end_is_answer text state short so None is = (short, so_far_end text state so (Err (Refused (length text))) (refl, is))
end_is_answer text state short so (Some tree) is = (
  short,
  record {
    tokens = so.tokens;
    text_is = so.begins;
    query = parsed_is_query so.tokens tree (ended so.tokens state so.is ∙ is);
    few = omega (arith, so.few, so.count);
  },
)

no_memory_at : (place : ℕ) (state : State) (rest : List ℕ) (test : Bool)
    → with_rest rest (cond test (Err (TooDeep place)) (Ok state)) ≡ Err Memory → ⊥
no_memory_at place state rest true e = cc
no_memory_at place state rest false e = cc

no_memory_following : (place : ℕ) (rest : List ℕ) (stepped : Option State)
    → with_rest rest (within_limit place stepped) ≡ Err Memory → ⊥
no_memory_following place rest None e = cc
no_memory_following place rest (Some state) e = no_memory_at place state rest (ltb MAX_OPENINGS state.openings) e

no_memory : (place : ℕ) (state : State) (found : Option (Token × List ℕ)) → taken place state found ≡ Err Memory → ⊥
no_memory place state None e = cc
no_memory place state (Some found) e = no_memory_following place (past_blanks found.1) (step state found.0) e

fault_is_answer : (text rest : List ℕ) (place : ℕ) (state : State) → length text ≤ MAX_BYTES → SoFar text rest state
    → place + length rest ≡ length text → 0 < length rest
    → (fault : QueryFault) → taken place state (token_at rest) ≡ Err fault → IsAnswer text (Err fault)
fault_is_answer text rest place state short so at some fault e =
    reads_err text (Err fault) short (so_far_fault text rest place state so at some fault e)
    (λ memory. no_memory place state (token_at rest) (e ∙ ap (λ (fault : QueryFault). Err fault) memory))

-- what is known of every state that is after fewer tokens
abbrev Answered : ℕ → List ℕ → Type 0
Answered n text =
    (rest : List ℕ) (state : State) → length rest ≤ n → SoFar text rest state
    → IsAnswer text (answer_within n (length text) state rest)

step_is_answer : (n : ℕ) (text rest : List ℕ) (place : ℕ) (state : State) → Answered n text → length text ≤ MAX_BYTES
    → length rest ≤ suc n → SoFar text rest state → place + length rest ≡ length text → 0 < length rest
    → (found : Result (State × List ℕ) QueryFault) → taken place state (token_at rest) ≡ found
    → IsAnswer text (and_then found (answer_within n (length text)))
step_is_answer n text rest place state following short fits so at some (Ok found) e =
    following found.1 found.0
    (omega (arith, fits, following_shorter rest found.1 place state found.0 e))
    (so_far_more text rest found.1 place state found.0 so e)
step_is_answer n text rest place state following short fits so at some (Err fault) e =
    fault_is_answer text rest place state short so at some fault e

within_is_answer : (n : ℕ) (text : List ℕ) → length text ≤ MAX_BYTES → Answered n text
unfolding answer_within
within_is_answer zero text short [] state fits so = end_is_answer text state short so (finish state) refl
within_is_answer (suc n) text short [] state fits so = end_is_answer text state short so (finish state) refl
within_is_answer zero text short (b ∷ bytes) state fits so = absurd (omega arith)
within_is_answer (suc n) text short (b ∷ bytes) state fits so =
    step_is_answer n text (b ∷ bytes) (length text - length (b ∷ bytes)) state (within_is_answer n text short) short
    fits so (omega (arith, so.within)) (omega arith)
    (taken (length text - length (b ∷ bytes)) state (token_at (b ∷ bytes))) refl

answer_if_long : (text : List ℕ) (long : Bool) → ltb MAX_BYTES (length text) ≡ long
    → IsAnswer text
    (cond long (Err (TooLong (length text))) (answer_within (length text) (length text) start (past_blanks text)))
answer_if_long text true is = (grind (arith, nat_tests), refl)
answer_if_long text false is =
    within_is_answer (length text) text (grind (arith, nat_tests)) (past_blanks text) start (blanks_shorter text)
    (at_front text (past_blanks text) start refl refl)

pub texts_are_answered : (text : List ℕ) → IsAnswer text (query_of text)
unfolding query_of
texts_are_answered text = answer_if_long text (ltb MAX_BYTES (length text)) refl

-- ---- how many patterns a query has: no more than tokens, which are no more than bytes

abbrev count_of : List Tree → ℕ
count_of [] = 0
count_of (tree ∷ trees) = length (searches tree) + count_of trees

listed_count : (trees : List Tree) → length (searches_of (listed trees)) ≡ count_of trees
listed_count [] = refl
listed_count (tree ∷ trees) =
    length-append (searches tree) (searches_of (listed trees))
    ∙ ap (λ (n : ℕ). length (searches tree) + n) (listed_count trees)

any_count : (trees : List Tree) → length (searches (any_of trees)) ≡ count_of trees
any_count [] = refl
any_count (tree ∷ []) = omega arith
any_count (tree ∷ second ∷ trees) = listed_count (tree ∷ second ∷ trees)

all_count : (trees : List Tree) → length (searches (all_of trees)) ≡ count_of trees
all_count [] = refl
all_count (tree ∷ []) = omega arith
all_count (tree ∷ second ∷ trees) = listed_count (tree ∷ second ∷ trees)

abbrev HasFew : Option Tree → Type 0
HasFew None = Unit {0}
HasFew (Some tree) = length (searches tree) ≤ 1

tested : (field : Field) (operator : Operator) (literal : Token) → HasFew (test_of field operator literal)
tested field operator.Equal token.Open = tt
tested field operator.Equal token.Close = tt
tested field operator.Equal token.And = tt
tested field operator.Equal token.Or = tt
tested field operator.Equal token.Not = tt
tested field operator.Equal token.True = tt
tested field operator.Equal token.False = tt
tested field operator.Equal token.Nil = omega arith
tested field operator.Equal token.Tagged = tt
tested field operator.Equal (token.Operator other) = tt
tested field operator.Equal (token.Name name) = tt
tested field operator.Equal (token.Number number) = omega arith
tested field operator.Equal (token.Quoted text) = omega arith
tested field operator.Unequal token.Open = tt
tested field operator.Unequal token.Close = tt
tested field operator.Unequal token.And = tt
tested field operator.Unequal token.Or = tt
tested field operator.Unequal token.Not = tt
tested field operator.Unequal token.True = tt
tested field operator.Unequal token.False = tt
tested field operator.Unequal token.Nil = omega arith
tested field operator.Unequal token.Tagged = tt
tested field operator.Unequal (token.Operator other) = tt
tested field operator.Unequal (token.Name name) = tt
tested field operator.Unequal (token.Number number) = omega arith
tested field operator.Unequal (token.Quoted text) = omega arith
tested field (operator.Order order) token.Open = tt
tested field (operator.Order order) token.Close = tt
tested field (operator.Order order) token.And = tt
tested field (operator.Order order) token.Or = tt
tested field (operator.Order order) token.Not = tt
tested field (operator.Order order) token.True = tt
tested field (operator.Order order) token.False = tt
tested field (operator.Order order) token.Nil = tt
tested field (operator.Order order) token.Tagged = tt
tested field (operator.Order order) (token.Operator other) = tt
tested field (operator.Order order) (token.Name name) = tt
tested field (operator.Order order) (token.Number number) = omega arith
tested field (operator.Order order) (token.Quoted text) = tt
tested field operator.Wild token.Open = tt
tested field operator.Wild token.Close = tt
tested field operator.Wild token.And = tt
tested field operator.Wild token.Or = tt
tested field operator.Wild token.Not = tt
tested field operator.Wild token.True = tt
tested field operator.Wild token.False = tt
tested field operator.Wild token.Nil = tt
tested field operator.Wild token.Tagged = tt
tested field operator.Wild (token.Operator other) = tt
tested field operator.Wild (token.Name name) = tt
tested field operator.Wild (token.Number number) = tt
tested field operator.Wild (token.Quoted text) = omega arith
tested field operator.Search token.Open = tt
tested field operator.Search token.Close = tt
tested field operator.Search token.And = tt
tested field operator.Search token.Or = tt
tested field operator.Search token.Not = tt
tested field operator.Search token.True = tt
tested field operator.Search token.False = tt
tested field operator.Search token.Nil = tt
tested field operator.Search token.Tagged = tt
tested field operator.Search (token.Operator other) = tt
tested field operator.Search (token.Name name) = tt
tested field operator.Search (token.Number number) = tt
tested field operator.Search (token.Quoted text) = omega arith

mutual
  any_few : (tokens rest : List Token) (trees : List Tree) → IsAny tokens trees rest
      → count_of trees + length rest ≤ length tokens
  any_few tokens rest _ (one_alternative {parts = parts} all) =
      omega (arith, all_count parts, all_few tokens rest parts all)
  any_few tokens rest _ (more_alternatives {after = after} {parts = parts} {trees = trees} all any) =
      omega (arith, all_count parts, all_few tokens (token.Or ∷ after) parts all, any_few after rest trees any)

  all_few : (tokens rest : List Token) (parts : List Tree) → IsAll tokens parts rest
      → count_of parts + length rest ≤ length tokens
  all_few tokens rest _ (one_part {tree = tree} one) = omega (arith, one_few tokens rest tree one)
  all_few tokens rest _ (more_parts {after = after} {tree = tree} {trees = trees} one all) =
      omega (arith, one_few tokens (token.And ∷ after) tree one, all_few after rest trees all)

  one_few : (tokens rest : List Token) (tree : Tree) → IsOne tokens tree rest
      → length (searches tree) + length rest ≤ length tokens
  one_few _ rest _ (negated {tokens = tokens} {tree = tree} one) = omega (arith, one_few tokens rest tree one)
  one_few _ rest _ (grouped {tokens = tokens} {trees = trees} any) =
      omega (arith, any_count trees, any_few tokens (token.Close ∷ rest) trees any)
  one_few _ rest _ always = omega arith
  one_few _ rest _ never = omega arith
  one_few _ rest _ nothing = omega arith
  one_few _ rest _ tagged = omega arith
  one_few _ rest _ (test {field = field} {operator = operator} {literal = literal} {tree = tree} named is) =
      let few : length (searches tree) ≤ 1 = subst HasFew is (tested field operator literal) in
      omega arith

tokens_few : (text : List ℕ) (tokens : List Token) (rest : List ℕ) → Begins text tokens rest
    → length tokens + length rest ≤ length text
tokens_few text [] rest begins = omega (arith, blanks_shorter text, ap length begins)
tokens_few text (t ∷ tokens) rest (after, read, begins) =
    omega
    (arith, blanks_shorter text, after_shorter (past_blanks text) t after read, tokens_few after tokens rest begins)

pub patterns_are_few : (text : List ℕ) (tree : Tree) → IsAnswer text (Ok tree) → length (searches tree) ≤ MAX_BYTES
patterns_are_few text tree (short, query) =
    let trees = query.query in
    let few : length (searches tree) ≤ length query.tokens
    = omega (
      arith,
      any_few query.tokens [] trees.0 trees.1,
      any_count trees.0,
      ap (λ (tree : Tree). length (searches tree)) trees.2,
    ) in
    omega (arith, few, tokens_few text query.tokens [] query.text_is, short)
