-- No text has two answers.
use Rattle.std.proofs.Common.{◌≡◌, ℕ, ◌+◌, ◌<◌, ◌≤◌, List, [], ◌∷◌, ◌++◌, ◌≢◌, length, Option, Some, Result, Ok, Err}
use Rattle.std.proofs.Common.{IfOk, IfErr, ⊎_elim, refl, ap, sym, ◌∙◌, subst, arith, append_assoc}
use Rattle.std.proofs.lemmas.Bool.{cases_lt}
use Rattle.pred_eval.specs.declared.rule.Rule.{Rule}
use Rattle.pred_eval.specs.Tree.{Tree, tree_of}
use Rattle.query_lang.specs.declared.read.TheConstants.{MAX_BYTES}
use Rattle.query_lang.specs.declared.parser.TheConstants.{MAX_OPENINGS}
use Rattle.query_lang.specs.declared.fault.QueryFault.{QueryFault}
use Rattle.query_lang.specs.declared.fault.QueryFault.TheVariants.{TooLong, Refused, TooDeep, Memory}
use Rattle.query_lang.specs.declared.token.Token.{Token}
use Rattle.query_lang.specs.Tokens.{token_at}
use Rattle.query_lang.specs.Grammar.{IsQuery, IsQueryPrefix}
use Rattle.query_lang.specs.Queries.{Begins, openings, Stops, StopsAtToken, IsQueryText, IsRefusedAt, IsTooDeepAt}
use Rattle.query_lang.specs.Queries.{IsAnswer, Agrees}
use Rattle.query_lang.specs.Reading.{Parses}
use Rattle.query_lang.proofs.ParserLaws.{one_tree, append_nil}
use Rattle.query_lang.proofs.CountLaws.{openings_append}

-- tokens with which a text may be split

abbrev Blocks : (List Token → Type 0) → List Token → List ℕ → Type 0
Blocks Allowed tokens rest =
    (t : Token) (after : List ℕ) (more : List Token) → token_at rest ≡ Some (t, after) → Allowed (tokens ++ t ∷ more)
    → ⊥

some_pair : {x y : Token × List ℕ} → Some x ≡ Some y → x ≡ y
some_pair same = cc

same_split : (Allowed : List Token → Type 0) (text : List ℕ) (a b : List Token) (following_a following_b : List ℕ)
    → Begins text a following_a → Begins text b following_b → Allowed a → Allowed b
    → Blocks Allowed a following_a → Blocks Allowed b following_b → (a ≡ b) × (following_a ≡ following_b)
same_split Allowed text [] [] following_a following_b begins_a begins_b allowed_a allowed_b blocks_a blocks_b =
    (refl, sym begins_a ∙ begins_b)
same_split Allowed text [] (t ∷ b) following_a following_b begins_a (after, read, begins_b) allowed_a allowed_b blocks_a
    blocks_b =
    absurd (blocks_a t after b (subst (λ (bytes : List ℕ). token_at bytes ≡ Some (t, after)) begins_a read) allowed_b)
same_split Allowed text (t ∷ a) [] following_a following_b (after, read, begins_a) begins_b allowed_a allowed_b blocks_a
    blocks_b =
    absurd (blocks_b t after a (subst (λ (bytes : List ℕ). token_at bytes ≡ Some (t, after)) begins_b read) allowed_a)
same_split Allowed text (t ∷ a) (u ∷ b) following_a following_b (after_a, read_a, begins_a) (after_b, read_b, begins_b)
    allowed_a allowed_b blocks_a blocks_b =
    let Claim : Token × List ℕ → Type 0 =
    λ p. Begins p.1 b following_b → Allowed (p.0 ∷ b) → Blocks Allowed (p.0 ∷ b) following_b
    → (t ∷ a ≡ p.0 ∷ b) × (following_a ≡ following_b) in
    let same : Claim (t, after_a) = λ begins allowed blocks.
    let rest =
    same_split (λ tokens. Allowed (t ∷ tokens)) after_a a b following_a following_b begins_a begins allowed_a allowed
    blocks_a blocks in
    (ap (λ (tokens : List Token). t ∷ tokens) rest.0, rest.1) in
    subst Claim (some_pair (sym read_a ∙ read_b)) same begins_b allowed_b blocks_b

abbrev Allowed : List Token → Type 0
Allowed tokens = IsQueryPrefix tokens × (openings tokens ≤ MAX_OPENINGS)

-- how each answer splits the text, and what it says of the split

abbrev EndsIn : List ℕ → Result Tree QueryFault → List Token → List ℕ → Type 0
EndsIn text (Ok tree) tokens rest = (rest ≡ []) × IsQuery tokens tree
EndsIn text (Err (Refused place)) tokens rest = (place + length rest ≡ length text) × Stops tokens rest
EndsIn text (Err (TooDeep place)) tokens rest =
    (place + length rest ≡ length text) × (t : Token) × (after : List ℕ) × (token_at rest ≡ Some (t, after))
    × IsQueryPrefix (tokens ++ t ∷ [])
EndsIn text (Err (TooLong size)) tokens rest = ⊥
EndsIn text (Err Memory) tokens rest = ⊥

record Split (text : List ℕ) (answer : Result Tree QueryFault) : Type 0 where
  tokens : List Token
  rest : List ℕ
  begins : Begins text tokens rest
  allowed : Allowed tokens
  blocks : Blocks Allowed tokens rest
  ends : EndsIn text answer tokens rest

nothing_read : (t : Token) (after : List ℕ) → token_at [] ≡ Some (t, after) → ⊥
unfolding token_at
nothing_read t after e = cc

shorter_front : (tokens more : List Token) → IsQueryPrefix (tokens ++ more) → IsQueryPrefix tokens
shorter_front tokens more (others, tree, query) =
    (more ++ others, tree, subst (λ (all : List Token). IsQuery all tree) (append_assoc tokens more others) query)

first_of : (tokens : List Token) (t : Token) (more : List Token) → IsQueryPrefix (tokens ++ t ∷ more)
    → IsQueryPrefix (tokens ++ t ∷ [])
first_of tokens t more front =
    shorter_front (tokens ++ t ∷ []) more
    (subst (λ (all : List Token). IsQueryPrefix all) (sym (append_assoc tokens (t ∷ []) more)) front)

query_front : (tokens : List Token) (tree : Tree) → IsQuery tokens tree → IsQueryPrefix tokens
query_front tokens tree query =
    ([], tree, subst (λ (all : List Token). IsQuery all tree) (sym (append_nil tokens)) query)

stops_token : (tokens : List Token) (rest : List ℕ) (t : Token) (after : List ℕ) → Stops tokens rest
    → token_at rest ≡ Some (t, after) → IsQueryPrefix (tokens ++ t ∷ []) → ⊥
stops_token tokens [] t after stops read front = nothing_read t after read
stops_token tokens (b ∷ bytes) t after stops read front =
    subst (λ (found : Option (Token × List ℕ)). StopsAtToken tokens found) read stops front

split_query : (text : List ℕ) (tree : Tree) → IsQueryText text tree → Split text (Ok tree)
split_query text tree is = record {
  tokens = is.tokens;
  rest = [];
  begins = is.text_is;
  allowed = (query_front is.tokens tree is.query, is.few);
  blocks = λ t after more read allowed. nothing_read t after read;
  ends = (refl, is.query);
}

split_refused : (text : List ℕ) (place : ℕ) → IsRefusedAt text place → Split text (Err (Refused place))
split_refused text place is = record {
  tokens = is.tokens;
  rest = is.rest;
  begins = is.begins;
  allowed = (is.front, is.few);
  blocks =
      λ t after more read allowed.
      stops_token is.tokens is.rest t after is.stops read (first_of is.tokens t more allowed.0);
  ends = (is.at, is.stops);
}

deep_blocks : (text : List ℕ) (place : ℕ) (is : IsTooDeepAt text place) → Blocks Allowed is.tokens is.rest
deep_blocks text place is t after more read allowed =
    let same : t ≡ is.token = ap (λ (p : Token × List ℕ). p.0) (some_pair (sym read ∙ is.read)) in
    let all = openings_append (is.tokens ++ is.token ∷ []) more in
    let whole = ap openings (append_assoc is.tokens (is.token ∷ []) more) in
    let few : openings (is.tokens ++ is.token ∷ more) ≤ MAX_OPENINGS =
    subst (λ (first : Token). openings (is.tokens ++ first ∷ more) ≤ MAX_OPENINGS) same allowed.1 in
    omega (arith, is.deep)

split_deep : (text : List ℕ) (place : ℕ) → IsTooDeepAt text place → Split text (Err (TooDeep place))
split_deep text place is = record {
  tokens = is.tokens;
  rest = is.rest;
  begins = is.begins;
  allowed = (shorter_front is.tokens (is.token ∷ []) is.front, omega (arith, is.full));
  blocks = deep_blocks text place is;
  ends = (is.at, is.token, is.after, is.read, is.front);
}

query_apart : (text : List ℕ) (tree : Tree) (place : ℕ) (tokens : List Token) (rest : List ℕ) → rest ≡ []
    → IsQuery tokens tree → Stops tokens rest → ⊥
query_apart text tree place tokens [] none query stops = stops tree query
query_apart text tree place tokens (b ∷ rest) none query stops = cc

query_shallow : (tokens : List Token) (rest : List ℕ) (t : Token) (after : List ℕ) → rest ≡ []
    → token_at rest ≡ Some (t, after) → ⊥
query_shallow tokens rest t after none read =
    nothing_read t after (subst (λ (bytes : List ℕ). token_at bytes ≡ Some (t, after)) none read)

agree : (text : List ℕ) (tokens : List Token) (rest : List ℕ) (a b : Result Tree QueryFault) → EndsIn text a tokens rest
    → EndsIn text b tokens rest → a ≡ b
agree text tokens rest (Ok x) (Ok y) (none, query) (also_none, other) =
    ap (λ (tree : Tree). Ok tree) (one_tree tokens x y query other)
agree text tokens rest (Ok x) (Err (Refused q)) (none, query) (at, stops) =
    absurd (query_apart text x q tokens rest none query stops)
agree text tokens rest (Ok x) (Err (TooDeep q)) (none, query) (at, t, after, read, front) =
    absurd (query_shallow tokens rest t after none read)
agree text tokens rest (Err (Refused p)) (Ok y) (at, stops) (none, query) =
    absurd (query_apart text y p tokens rest none query stops)
agree text tokens rest (Err (Refused p)) (Err (Refused q)) (at, stops) (also_at, others) =
    let same : p ≡ q = omega arith in ap (λ (place : ℕ). Err (Refused place)) same
agree text tokens rest (Err (Refused p)) (Err (TooDeep q)) (at, stops) (also_at, t, after, read, front) =
    absurd (stops_token tokens rest t after stops read front)
agree text tokens rest (Err (TooDeep p)) (Ok y) (at, t, after, read, front) (none, query) =
    absurd (query_shallow tokens rest t after none read)
agree text tokens rest (Err (TooDeep p)) (Err (Refused q)) (at, t, after, read, front) (also_at, stops) =
    absurd (stops_token tokens rest t after stops read front)
agree text tokens rest (Err (TooDeep p)) (Err (TooDeep q)) (at, t, after, read, front)
    (also_at, u, following, also_read, also_front) =
    let same : p ≡ q = omega arith in ap (λ (place : ℕ). Err (TooDeep place)) same
agree text tokens rest (Err (TooLong size)) b ends others = absurd ends
agree text tokens rest (Err Memory) b ends others = absurd ends
agree text tokens rest (Ok x) (Err (TooLong size)) ends others = absurd others
agree text tokens rest (Ok x) (Err Memory) ends others = absurd others
agree text tokens rest (Err (Refused p)) (Err (TooLong size)) ends others = absurd others
agree text tokens rest (Err (Refused p)) (Err Memory) ends others = absurd others
agree text tokens rest (Err (TooDeep p)) (Err (TooLong size)) ends others = absurd others
agree text tokens rest (Err (TooDeep p)) (Err Memory) ends others = absurd others

one_split : (text : List ℕ) (a b : Result Tree QueryFault) → Split text a → Split text b → a ≡ b
one_split text a b first second =
    let same =
    same_split Allowed text first.tokens second.tokens first.rest second.rest first.begins second.begins first.allowed
    second.allowed first.blocks second.blocks in
    let ends : EndsIn text b first.tokens first.rest =
    subst (λ (tokens : List Token). EndsIn text b tokens first.rest) (sym same.0)
    (subst (λ (rest : List ℕ). EndsIn text b second.tokens rest) (sym same.1) second.ends) in
    agree text first.tokens first.rest a b first.ends ends

-- a text that is not too long is split by its answer
split_of : (text : List ℕ) (answer : Result Tree QueryFault) → length text ≤ MAX_BYTES → IsAnswer text answer
    → Split text answer
split_of text (Ok tree) short is = split_query text tree is.1
split_of text (Err (Refused place)) short is = split_refused text place is.1
split_of text (Err (TooDeep place)) short is = split_deep text place is.1
split_of text (Err (TooLong size)) short is = absurd (omega (arith, is.0))
split_of text (Err Memory) short is = absurd is

long_answer : (text : List ℕ) (answer : Result Tree QueryFault) → MAX_BYTES < length text → IsAnswer text answer
    → answer ≡ Err (TooLong (length text))
long_answer text (Ok tree) long is = absurd (omega (arith, is.0))
long_answer text (Err (Refused place)) long is = absurd (omega (arith, is.0))
long_answer text (Err (TooDeep place)) long is = absurd (omega (arith, is.0))
long_answer text (Err (TooLong size)) long is = ap (λ (size : ℕ). Err (TooLong size)) is.1
long_answer text (Err Memory) long is = absurd is

pub one_answer : (text : List ℕ) (a b : Result Tree QueryFault) → IsAnswer text a → IsAnswer text b → a ≡ b
one_answer text a b is also_is = ⊎_elim
    (λ long. long_answer text a long is ∙ sym (long_answer text b long also_is))
    (λ short. one_split text a b (split_of text a short is) (split_of text b short also_is))
    (cases_lt MAX_BYTES (length text))

-- a call that gives an answer gives the only one

pub says_only : (text : List ℕ) (result : Result Rule QueryFault)
    → IfOk result (λ rule. IsAnswer text (Ok (tree_of rule)))
    → IfErr result (λ fault. fault ≢ Memory → IsAnswer text (Err fault))
    → (answer : Result Tree QueryFault) → IsAnswer text answer → Agrees result answer
says_only text (Ok rule) ok err answer is = one_answer text answer (Ok (tree_of rule)) is ok
says_only text (Err Memory) ok err answer is = tt
says_only text (Err (TooLong size)) ok err answer is = one_answer text answer (Err (TooLong size)) is (err (λ same. cc))
says_only text (Err (Refused place)) ok err answer is =
    one_answer text answer (Err (Refused place)) is (err (λ same. cc))
says_only text (Err (TooDeep place)) ok err answer is =
    one_answer text answer (Err (TooDeep place)) is (err (λ same. cc))

pub reads_ok : (text : List ℕ) (result : Result Rule QueryFault) → length text ≤ MAX_BYTES → Parses text result
    → IfOk result (λ rule. IsAnswer text (Ok (tree_of rule)))
reads_ok text (Ok rule) short reads = (short, reads)
reads_ok text (Err fault) short reads = tt

pub reads_err : (text : List ℕ) (result : Result Rule QueryFault) → length text ≤ MAX_BYTES → Parses text result
    → IfErr result (λ fault. fault ≢ Memory → IsAnswer text (Err fault))
reads_err text (Ok rule) short reads = tt
reads_err text (Err (Refused place)) short reads = λ other. (short, reads)
reads_err text (Err (TooDeep place)) short reads = λ other. (short, reads)
reads_err text (Err (TooLong size)) short reads = absurd reads
reads_err text (Err Memory) short reads = λ other. absurd (other refl)
