-- What was read of a text so far.
use Rattle.std.proofs.Common.{◌≡◌, ℕ, suc, ◌+◌, ◌-◌, ◌<◌, ◌≤◌, Bool, true, false, cond, eqb, ltb, List, [], ◌∷◌, ◌++◌}
use Rattle.std.proofs.Common.{length, Option, Some, None, Result, Ok, Err, refl, ap, sym, ◌∙◌, subst, arith}
use Rattle.std.specs.Option.{option_and_then}
use Rattle.std.proofs.Math.Dec.{eqb-suc-zero}
use Rattle.std.proofs.lemmas.Bool.{eqb-false}
use Rattle.std.proofs.lemmas.Bool.Decides.{nat_tests}
use Rattle.pred_eval.specs.declared.rule.Rule.{Rule}
use Rattle.pred_eval.specs.Tree.{tree_of}
use Rattle.query_lang.specs.declared.parser.TheConstants.{MAX_OPENINGS}
use Rattle.query_lang.specs.declared.fault.QueryFault.{QueryFault}
use Rattle.query_lang.specs.declared.fault.QueryFault.TheVariants.{TooLong, Refused, TooDeep, Memory}
use Rattle.query_lang.specs.declared.token.Token.{Token}
use Rattle.query_lang.specs.Tokens.{past_blanks, token_at}
use Rattle.query_lang.specs.Grammar.{IsQueryPrefix, is_opening}
use Rattle.query_lang.specs.Parsing.{State, start, step, finish, within_limit, Ends}
use Rattle.query_lang.specs.Queries.{Begins, openings, Stops, StopsAtToken, IsRefusedAt, IsTooDeepAt}
use Rattle.query_lang.specs.Reading.{with_rest, taken, Takes, Parses}
use Rattle.query_lang.proofs.ParserLaws.{reached, reached_more, parsed_is_query, taken_is_front, refused_is_none, ended}
use Rattle.query_lang.proofs.ParserLaws.{unended}
use Rattle.query_lang.proofs.ScanLaws.{after_shorter, blanks_shorter}
use Rattle.query_lang.proofs.CountLaws.{Counted, step_counts, openings_more}

-- the text up to `rest` is tokens that brought the parser here
pub record SoFar (text rest : List ℕ) (state : State) : Type 0 where
  pub tokens : List Token
  pub begins : Begins text tokens rest
  pub within : length rest ≤ length text
  pub is : reached start tokens ≡ Some state
  pub count : state.openings ≡ openings tokens
  pub few : state.openings ≤ MAX_OPENINGS
  pub counted : Counted state

at_start : (text : List ℕ) → SoFar text (past_blanks text) start
at_start text = record {
  tokens = [];
  begins = refl;
  within = blanks_shorter text;
  is = refl;
  count = refl;
  few = omega arith;
  counted = record { group = omega arith; outer = tt };
}

pub at_front : (text rest : List ℕ) (state : State) → rest ≡ past_blanks text → state ≡ start → SoFar text rest state
at_front text rest state front fresh =
    subst (λ (s : State). SoFar text rest s) (sym fresh)
    (subst (λ (bytes : List ℕ). SoFar text bytes start) (sym front) (at_start text))

begins_more : (text : List ℕ) (tokens : List Token) (rest after : List ℕ) (t : Token) → Begins text tokens rest
    → token_at rest ≡ Some (t, after) → Begins text (tokens ++ t ∷ []) (past_blanks after)
begins_more text [] rest after t begins read =
    (after, subst (λ (bytes : List ℕ). token_at bytes ≡ Some (t, after)) (sym begins) read, refl)
begins_more text (first ∷ tokens) rest after t (middle, here, begins) read =
    (middle, here, begins_more middle tokens rest after t begins read)

-- the parser's answer at a token, by cases
pub record NextToken (place : ℕ) (state : State) (found : Option (Token × List ℕ)) (next : State) (rest : List ℕ) : Type
    0 where
  pub token : Token
  pub after : List ℕ
  pub read : found ≡ Some (token, after)
  pub step_is : step state token ≡ Some next
  pub few : next.openings ≤ MAX_OPENINGS
  pub rest_is : past_blanks after ≡ rest

ok_same : {x y : State × List ℕ} → ◌≡◌ {A = Result (State × List ℕ) QueryFault} (Ok x) (Ok y) → x ≡ y
ok_same same = cc

at_most : (n : ℕ) → ltb MAX_OPENINGS n ≡ false → n ≤ MAX_OPENINGS
at_most n over = grind (arith, nat_tests)

next_at_limit : (place : ℕ) (state next : State) (token : Token) (after rest : List ℕ) (middle : State) (test : Bool)
    → step state token ≡ Some middle → ltb MAX_OPENINGS middle.openings ≡ test
    → with_rest (past_blanks after) (cond test (Err (TooDeep place)) (Ok middle)) ≡ Ok (next, rest)
    → NextToken place state (Some (token, after)) next rest
next_at_limit place state next token after rest middle true is over e = cc
next_at_limit place state next token after rest middle false is over e =
    let pair : (middle, past_blanks after) ≡ (next, rest) = ok_same e in
    let same : middle ≡ next = ap (λ (p : State × List ℕ). p.0) pair in
    let few : middle.openings ≤ MAX_OPENINGS = at_most middle.openings over in
    record {
      token = token;
      after = after;
      read = refl;
      step_is = is ∙ ap (λ (s : State). Some s) same;
      few = subst (λ (s : State). s.openings ≤ MAX_OPENINGS) same few;
      rest_is = ap (λ (p : State × List ℕ). p.1) pair;
    }

next_at_step : (place : ℕ) (state next : State) (token : Token) (after rest : List ℕ) (stepped : Option State)
    → step state token ≡ stepped
    → with_rest (past_blanks after) (within_limit place stepped) ≡ Ok (next, rest)
    → NextToken place state (Some (token, after)) next rest
next_at_step place state next token after rest None is e = cc
next_at_step place state next token after rest (Some middle) is e =
    next_at_limit place state next token after rest middle (ltb MAX_OPENINGS middle.openings) is refl e

next_at : (place : ℕ) (state next : State) (found : Option (Token × List ℕ)) (rest : List ℕ)
    → taken place state found ≡ Ok (next, rest) → NextToken place state found next rest
next_at place state next None rest e = cc
next_at place state next (Some found) rest e =
    next_at_step place state next found.0 found.1 rest (step state found.0) refl e

-- one token more
pub so_far_more : (text rest following : List ℕ) (place : ℕ) (state next : State) → SoFar text rest state
    → taken place state (token_at rest) ≡ Ok (next, following) → SoFar text following next
so_far_more text rest following place state next so e =
    let step_on = next_at place state next (token_at rest) following e in
    let counts = step_counts state step_on.token next step_on.step_is in
    let begins = begins_more text so.tokens rest step_on.after step_on.token so.begins step_on.read in
    let shorter = after_shorter rest step_on.token step_on.after step_on.read in
    let blanks = blanks_shorter step_on.after in
    let within : length (past_blanks step_on.after) ≤ length text = omega (arith, so.within) in
    record {
      tokens = so.tokens ++ step_on.token ∷ [];
      begins = subst (λ (bytes : List ℕ). Begins text (so.tokens ++ step_on.token ∷ []) bytes) step_on.rest_is begins;
      within = subst (λ (bytes : List ℕ). length bytes ≤ length text) step_on.rest_is within;
      is =
          reached_more start so.tokens step_on.token
          ∙ ap (λ (found : Option State). option_and_then (λ next. step next step_on.token) found) so.is
          ∙ step_on.step_is;
      count =
          counts.openings_are ∙ ap (λ (n : ℕ). n + openings (step_on.token ∷ [])) so.count
          ∙ sym (openings_more so.tokens step_on.token);
      few = step_on.few;
      counted = counts.counted so.counted;
    }

pub following_shorter : (rest following : List ℕ) (place : ℕ) (state next : State)
    → taken place state (token_at rest) ≡ Ok (next, following) → length following < length rest
following_shorter rest following place state next e =
    let step_on = next_at place state next (token_at rest) following e in
    let shorter = after_shorter rest step_on.token step_on.after step_on.read in
    let blanks = blanks_shorter step_on.after in
    let below : length (past_blanks step_on.after) < length rest = omega arith in
    subst (λ (bytes : List ℕ). length bytes < length rest) step_on.rest_is below

-- a token that may not come

stops_at : (tokens : List Token) (rest : List ℕ) → 0 < length rest → StopsAtToken tokens (token_at rest)
    → Stops tokens rest
stops_at tokens [] some stops = absurd (omega arith)
stops_at tokens (b ∷ bytes) some stops = stops

reached_step : (text rest : List ℕ) (state : State) (so : SoFar text rest state) (t : Token)
    → reached start (so.tokens ++ t ∷ []) ≡ step state t
reached_step text rest state so t =
    reached_more start so.tokens t ∙ ap (λ (found : Option State). option_and_then (λ next. step next t) found) so.is

refused_at : (text rest : List ℕ) (place : ℕ) (state : State) (so : SoFar text rest state)
    → place + length rest ≡ length text → Stops so.tokens rest → IsRefusedAt text place
refused_at text rest place state so at stops = record {
  tokens = so.tokens;
  rest = rest;
  begins = so.begins;
  at = at;
  front = taken_is_front so.tokens state so.is;
  few = omega (arith, so.few, so.count);
  stops = stops;
}

err_same : {x y : QueryFault} → ◌≡◌ {A = Result (State × List ℕ) QueryFault} (Err x) (Err y) → x ≡ y
err_same same = cc

opening_once : (test : Bool) → 0 + cond test 1 0 ≤ 1
opening_once true = omega arith
opening_once false = omega arith

fault_at_limit : (text rest : List ℕ) (place : ℕ) (state : State) (so : SoFar text rest state)
    → place + length rest ≡ length text → (token : Token) (after : List ℕ) → token_at rest ≡ Some (token, after)
    → (fault : QueryFault) (middle : State) (test : Bool) → step state token ≡ Some middle
    → ltb MAX_OPENINGS middle.openings ≡ test
    → with_rest (past_blanks after) (cond test (Err (TooDeep place)) (Ok middle)) ≡ Err fault → Parses text (Err fault)
fault_at_limit text rest place state so at token after read fault middle false is over e = cc
fault_at_limit text rest place state so at token after read fault middle true is over e =
    let above : MAX_OPENINGS < middle.openings = grind (arith, nat_tests) in
    let counts = step_counts state token middle is in
    let more = openings_more so.tokens token in
    let once : openings (token ∷ []) ≤ 1 = opening_once (is_opening token) in
    let deep : IsTooDeepAt text place = record {
      tokens = so.tokens;
      rest = rest;
      after = after;
      token = token;
      begins = so.begins;
      at = at;
      read = read;
      front = taken_is_front (so.tokens ++ token ∷ []) middle (reached_step text rest state so token ∙ is);
      full = omega (arith, so.few, so.count, counts.openings_are);
      deep = omega (arith, so.few, so.count, counts.openings_are);
    } in
    let Claim : QueryFault → Type 0 = λ fault. Parses text (Err fault) in
    subst Claim (err_same e) deep

fault_at_step : (text rest : List ℕ) (place : ℕ) (state : State) (so : SoFar text rest state)
    → place + length rest ≡ length text → 0 < length rest
    → (token : Token) (after : List ℕ) → token_at rest ≡ Some (token, after)
    → (fault : QueryFault) (stepped : Option State) → step state token ≡ stepped
    → with_rest (past_blanks after) (within_limit place stepped) ≡ Err fault → Parses text (Err fault)
fault_at_step text rest place state so at some token after read fault None is e =
    let none : IsQueryPrefix (so.tokens ++ token ∷ []) → ⊥ =
    refused_is_none (so.tokens ++ token ∷ []) (reached_step text rest state so token ∙ is) in
    let stops : StopsAtToken so.tokens (token_at rest) =
    subst (λ (found : Option (Token × List ℕ)). StopsAtToken so.tokens found) (sym read) none in
    let Claim : QueryFault → Type 0 = λ fault. Parses text (Err fault) in
    subst Claim (err_same e) (refused_at text rest place state so at (stops_at so.tokens rest some stops))
fault_at_step text rest place state so at some token after read fault (Some middle) is e =
    fault_at_limit text rest place state so at token after read fault middle (ltb MAX_OPENINGS middle.openings) is refl
    e

fault_at : (text rest : List ℕ) (place : ℕ) (state : State) (so : SoFar text rest state)
    → place + length rest ≡ length text → 0 < length rest
    → (found : Option (Token × List ℕ)) → token_at rest ≡ found → (fault : QueryFault)
    → taken place state found ≡ Err fault → Parses text (Err fault)
fault_at text rest place state so at some None read fault e =
    let stops : StopsAtToken so.tokens (token_at rest) =
    subst (λ (found : Option (Token × List ℕ)). StopsAtToken so.tokens found) (sym read) tt in
    let Claim : QueryFault → Type 0 = λ fault. Parses text (Err fault) in
    subst Claim (err_same e) (refused_at text rest place state so at (stops_at so.tokens rest some stops))
fault_at text rest place state so at some (Some found) read fault e =
    fault_at_step text rest place state so at some found.0 found.1 read fault (step state found.0) refl e

pub so_far_fault : (text rest : List ℕ) (place : ℕ) (state : State) → SoFar text rest state
    → place + length rest ≡ length text → 0 < length rest
    → (fault : QueryFault) → taken place state (token_at rest) ≡ Err fault → Parses text (Err fault)
so_far_fault text rest place state so at some fault e =
    fault_at text rest place state so at some (token_at rest) refl fault e

-- the end of the text
pub so_far_end : (text : List ℕ) (state : State) → SoFar text [] state → (result : Result Rule QueryFault)
    → Ends result (length text) (finish state) → Parses text result
so_far_end text state so (Ok rule) e = record {
  tokens = so.tokens;
  text_is = so.begins;
  query = parsed_is_query so.tokens (tree_of rule) (ended so.tokens state so.is ∙ e);
  few = omega (arith, so.few, so.count);
}
so_far_end text state so (Err (Refused place)) (at, none) =
    refused_at text [] place state so (omega arith) (λ tree query. unended so.tokens state so.is none tree query)
so_far_end text state so (Err Memory) e = tt
so_far_end text state so (Err (TooDeep place)) e = absurd e
so_far_end text state so (Err (TooLong size)) e = absurd e

some_left : (rest : List ℕ) (empty : Bool) → empty ≡ eqb (length rest) 0 → empty ≡ false → 0 < length rest
some_left rest empty test some = let apart = eqb-false (length rest) 0 (sym test ∙ some) in omega arith

some_not_none : (rest : List ℕ) → eqb (suc (length rest)) 0 ≡ true → ⊥
some_not_none rest e = let other = eqb-suc-zero (length rest) in cc

pub so_far_err : (text rest : List ℕ) (place : ℕ) (state next : State) (empty : Bool) → SoFar text rest state
    → empty ≡ eqb (length rest) 0 → empty ≡ false → place ≡ length text - length rest
    → (fault : QueryFault) → Takes (Err fault) next (taken place state (token_at rest)) → Parses text (Err fault)
so_far_err text rest place state next empty so test some at Memory e = tt
so_far_err text rest place state next empty so test some at (TooLong size) e =
    so_far_fault text rest place state so (omega (arith, so.within)) (some_left rest empty test some) (TooLong size) e
so_far_err text rest place state next empty so test some at (Refused refused) e =
    so_far_fault text rest place state so (omega (arith, so.within)) (some_left rest empty test some) (Refused refused)
    e
so_far_err text rest place state next empty so test some at (TooDeep deep) e =
    so_far_fault text rest place state so (omega (arith, so.within)) (some_left rest empty test some) (TooDeep deep) e

pub all_read : (text rest : List ℕ) (state : State) (empty : Bool) → SoFar text rest state → empty ≡ eqb (length rest) 0
    → empty ≡ true
    → (result : Result Rule QueryFault) → Ends result (length text) (finish state) → Parses text result
all_read text [] state empty so test is result e = so_far_end text state so result e
all_read text (b ∷ rest) state empty so test is result e = absurd (some_not_none rest (sym test ∙ is))
