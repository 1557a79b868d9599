-- What is known of the tokens of a text, and of the tree that they represent.
use Rattle.std.proofs.Common.{◌≡◌, ℕ, zero, suc, ◌+◌, ◌<◌, ◌≤◌, ◌^◌, ◌&&◌, ◌||◌, Bool, true, false, cond, eqb, ltb, leb}
use Rattle.std.proofs.Common.{List, [], ◌∷◌, codes, length, take, drop, Option, Some, None, unwrap_or, ℤ, pos, neg_ℤ}
use Rattle.std.proofs.Common.{refl, ap, sym, subst, arith, one-add}
use Rattle.std.specs.Char.{is_ascii_digit}
use Rattle.std.specs.List.{prefix_len}
use Rattle.std.specs.Option.{option_map, option_and_then, option_or}
use Rattle.std.specs.Str.{bytes_eq, is_utf8}
use Rattle.std.specs.Str.Parse.{digits_value}
use Rattle.std.proofs.lemmas.Bool.Decides.{nat_tests}
use Rattle.ev_types.specs.declared.field.Field.{Field}
use Rattle.ev_types.specs.declared.field.Field.TheVariants as field
use Rattle.ev_types.specs.declared.value.Value.{Value}
use Rattle.ev_types.specs.declared.value.Value.TheVariants as value
use Rattle.pred_eval.specs.declared.rule.Ordering.TheVariants.{Less, LessEqual, Greater, GreaterEqual}
use Rattle.pred_eval.specs.Tree.{Tree, Trees, Always, Never, Not, All, Any, Tagged, Equal, Order, Wild, Search, none}
use Rattle.pred_eval.specs.Tree.{also}
use Rattle.query_lang.specs.declared.token.Token.{Token}
use Rattle.query_lang.specs.declared.token.Token.TheVariants as token
use Rattle.query_lang.specs.declared.token.Operator.{Operator}
use Rattle.query_lang.specs.declared.token.Operator.TheVariants as operator
use Rattle.query_lang.specs.Tokens.{is_name_byte, is_name_start, is_number_start, past_blanks, goes_on, word_of}
use Rattle.query_lang.specs.Tokens.{name_at, number_at, number_of, quoted, string_at, symbol_at, or_short, long_symbol}
use Rattle.query_lang.specs.Tokens.{short_symbol, token_at}
use Rattle.ev_types.specs.Names.{protocol_field, is_hidden, named_field}
use Rattle.query_lang.specs.Grammar.{test_of, listed, any_of, all_of, IsAny, IsAll, IsOne, one_alternative}
use Rattle.query_lang.specs.Grammar.{more_alternatives, one_part, more_parts, negated, grouped, always, never, nothing}
use Rattle.query_lang.specs.Grammar.{tagged, test}
use Rattle.query_lang.specs.Queries.{Begins}
use Rattle.query_lang.proofs.ScanLaws.{AllPassing, run_passes, start_is_name_byte}
use Rattle.query_lang.proofs.ReadBackLaws.{IsName, Fits64}

-- tokens

abbrev pub Good : Token → Type 0
Good (token.Name name) = IsName name
Good (token.Number number) = Fits64 number
Good (token.Quoted text) = is_utf8 text ≡ true
Good t = Unit {0}

abbrev GoodFound : Option (Token × List ℕ) → Type 0
GoodFound None = Unit {0}
GoodFound (Some found) = Good found.0

abbrev GoodToken : Option Token → Type 0
GoodToken None = Unit {0}
GoodToken (Some t) = Good t

good_if : (test : Bool) (x y : Option (Token × List ℕ)) → (test ≡ true → GoodFound x) → GoodFound y
    → GoodFound (cond test x y)
good_if true x y first second = first refl
good_if false x y first second = second

token_if : (test : Bool) (x y : Option Token) → GoodToken x → GoodToken y → GoodToken (cond test x y)
token_if true x y first second = first
token_if false x y first second = second

words_good : (name : List ℕ) → GoodToken (word_of name)
unfolding word_of
words_good name =
    token_if (bytes_eq name (codes "and")) (Some token.And) _ tt
    (token_if (bytes_eq name (codes "or")) (Some token.Or) _ tt
    (token_if (bytes_eq name (codes "not")) (Some token.Not) _ tt
    (token_if (bytes_eq name (codes "true")) (Some token.True) _ tt
    (token_if (bytes_eq name (codes "false")) (Some token.False) _ tt
    (token_if (bytes_eq name (codes "nil")) (Some token.Nil) _ tt
    (token_if (bytes_eq name (codes "tagged")) (Some token.Tagged) None tt tt))))))

name_or_word : (name : List ℕ) (first : ℕ) (more : List ℕ) → name ≡ first ∷ more → is_name_start first ≡ true
    → AllPassing is_name_byte name
    → (found : Option Token) → word_of name ≡ found → GoodToken found → Good (unwrap_or found (token.Name name))
name_or_word name first more is starts passes None plain good =
    record { first = first; more = more; name_is = is; starts = starts; passes = passes; plain = plain }
name_or_word name first more is starts passes (Some word) plain good = good

name_good : (b : ℕ) (bytes : List ℕ) → is_name_start b ≡ true → Good (name_at (b ∷ bytes)).0
unfolding name_at
name_good b bytes starts =
    let size : prefix_len is_name_byte (b ∷ bytes) ≡ suc (prefix_len is_name_byte bytes) =
    rw (start_is_name_byte b starts) (one-add (prefix_len is_name_byte bytes)) in
    let name = take (prefix_len is_name_byte (b ∷ bytes)) (b ∷ bytes) in
    let is : name ≡ b ∷ take (prefix_len is_name_byte bytes) bytes = ap (λ (n : ℕ). take n (b ∷ bytes)) size in
    name_or_word name b (take (prefix_len is_name_byte bytes) bytes) is starts (run_passes is_name_byte (b ∷ bytes))
    (word_of name) refl (words_good name)

abbrev FitsFound : Option ℤ → Type 0
FitsFound None = Unit {0}
FitsFound (Some number) = Fits64 number

fits_if : (test : Bool) (number : ℤ) → (test ≡ true → Fits64 number) → FitsFound (cond test (Some number) None)
fits_if true number fits = fits refl
fits_if false number fits = tt

fits_either : (test : Bool) (x y : Option ℤ) → FitsFound x → FitsFound y → FitsFound (cond test x y)
fits_either true x y first second = first
fits_either false x y first second = second

negative_fits : (n : ℕ) → n ≤ 2 ^ 63 → Fits64 (neg_ℤ (pos n))
negative_fits zero le = omega arith
negative_fits (suc n) le = omega arith

test_le : (a n : ℕ) → (ltb 0 a && leb n (2 ^ 63)) ≡ true → n ≤ 2 ^ 63
test_le a n is = grind (arith, nat_tests)

test_lt : (n : ℕ) → ltb n (2 ^ 63) ≡ true → n < 2 ^ 63
test_lt n is = grind (arith, nat_tests)

numbers_fit : (literal : List ℕ) → FitsFound (number_of literal)
unfolding number_of
numbers_fit [] = tt
numbers_fit (b ∷ digits) =
    fits_either (eqb b 45) _ _
    (fits_if _ _ (λ is. negative_fits (digits_value 10 digits) (test_le (length digits) (digits_value 10 digits) is)))
    (fits_if _ _ (λ is. test_lt (digits_value 10 (b ∷ digits)) is))

number_good : (rest : List ℕ) (number : Option ℤ) → FitsFound number
    → GoodFound (option_map (λ number. (token.Number number, rest)) number)
number_good rest None fits = tt
number_good rest (Some number) fits = fits

string_good : (found : Option (List ℕ × List ℕ))
    → GoodFound (option_and_then (λ found. cond (is_utf8 found.0) (Some (token.Quoted found.0, found.1)) None) found)
string_good None = tt
string_good (Some found) = good_if (is_utf8 found.0) (Some (token.Quoted found.0, found.1)) None (λ utf8. utf8) tt

with_rest_good : (rest : List ℕ) (found : Option Token) → GoodToken found
    → GoodFound (option_map (λ token. (token, rest)) found)
with_rest_good rest None good = tt
with_rest_good rest (Some t) good = good

short_good : (b : ℕ) → GoodToken (short_symbol b)
unfolding short_symbol
short_good b =
    token_if (eqb b 40) (Some token.Open) _ tt
    (token_if (eqb b 41) (Some token.Close) _ tt (token_if (eqb b 61) (Some (token.Operator operator.Equal)) _ tt
    (token_if (eqb b 60) (Some (token.Operator (operator.Order Less))) _ tt
    (token_if (eqb b 62) (Some (token.Operator (operator.Order Greater))) None tt tt))))

long_good : (b c : ℕ) → GoodToken (long_symbol b c)
unfolding long_symbol
long_good b c =
    token_if (eqb b 33 && eqb c 61) (Some (token.Operator operator.Unequal)) _ tt
    (token_if (eqb b 60 && eqb c 61) (Some (token.Operator (operator.Order LessEqual))) _ tt
    (token_if (eqb b 62 && eqb c 61) (Some (token.Operator (operator.Order GreaterEqual))) _ tt
    (token_if (eqb b 61 && eqb c 126) (Some (token.Operator operator.Wild)) _ tt
    (token_if (eqb b 126 && eqb c 61) (Some (token.Operator operator.Search)) None tt tt))))

or_short_good : (b : ℕ) (bytes rest : List ℕ) (found : Option Token) → GoodToken found
    → GoodFound (or_short b bytes (option_map (λ token. (token, rest)) found))
or_short_good b bytes rest None good = with_rest_good bytes (short_symbol b) (short_good b)
or_short_good b bytes rest (Some t) good = good

symbol_good : (bytes : List ℕ) → GoodFound (symbol_at bytes)
symbol_good [] = tt
symbol_good (b ∷ []) = with_rest_good [] (short_symbol b) (short_good b)
symbol_good (b ∷ c ∷ bytes) = or_short_good b (c ∷ bytes) bytes (long_symbol b c) (long_good b c)

token_good : (bytes : List ℕ) → GoodFound (token_at bytes)
unfolding token_at number_at string_at
token_good [] = tt
token_good (b ∷ bytes) =
    good_if (is_name_start b) _ _ (λ starts. name_good b bytes starts)
    (good_if (is_number_start b) _ _
    (λ _. good_if (goes_on (drop (1 + prefix_len is_ascii_digit bytes) (b ∷ bytes))) None _ (λ _. tt)
    (number_good _ _ (numbers_fit (take (1 + prefix_len is_ascii_digit bytes) (b ∷ bytes)))))
    (good_if (eqb b 34) _ _ (λ _. string_good (quoted bytes)) (symbol_good (b ∷ bytes))))

abbrev pub AllGood : List Token → Type 0
AllGood [] = Unit {0}
AllGood (t ∷ tokens) = Good t × AllGood tokens

pub tokens_good : (text : List ℕ) (tokens : List Token) (rest : List ℕ) → Begins text tokens rest → AllGood tokens
tokens_good text [] rest begins = tt
tokens_good text (t ∷ tokens) rest (after, read, begins) = (
  subst (λ (found : Option (Token × List ℕ)). GoodFound found) read (token_good (past_blanks text)),
  tokens_good after tokens rest begins,
)

-- trees

abbrev pub GoodField : Field → Type 0
GoodField (field.Attribute key) = IsName key × (named_field key ≡ Some (field.Attribute key))
GoodField f = Unit {0}

abbrev pub GoodValue : Value → Type 0
GoodValue value.Nil = Unit {0}
GoodValue (value.Number number) = Fits64 number
GoodValue (value.Text text) = is_utf8 text ≡ true

abbrev pub Many : Trees → Type 0
Many none = ⊥
Many (also tree none) = ⊥
Many (also tree (also second trees)) = Unit {0}

abbrev mutual
  pub GoodTree : Tree → Type 0
  GoodTree Always = Unit {0}
  GoodTree Never = Unit {0}
  GoodTree (Not tree) = GoodTree tree
  GoodTree (All trees) = Many trees × GoodTrees trees
  GoodTree (Any trees) = Many trees × GoodTrees trees
  GoodTree (Tagged tag) = is_utf8 tag ≡ true
  GoodTree (Equal f v) = GoodField f × GoodValue v
  GoodTree (Order f order number) = GoodField f × Fits64 number
  GoodTree (Wild f pattern) = GoodField f × (is_utf8 pattern ≡ true)
  GoodTree (Search f pattern) = GoodField f × (is_utf8 pattern ≡ true)

  pub GoodTrees : Trees → Type 0
  GoodTrees none = Unit {0}
  GoodTrees (also tree trees) = GoodTree tree × GoodTrees trees

-- the only attribute that a name can mean is its own
abbrev Means : List ℕ → Option Field → Type 0
Means name None = Unit {0}
Means name (Some (field.Attribute key)) = key ≡ name
Means name (Some f) = Unit {0}

means_if : (name : List ℕ) (test : Bool) (x y : Option Field) → Means name x → Means name y → Means name (cond test x y)
means_if name true x y first second = first
means_if name false x y first second = second

means_or : (name : List ℕ) (x y : Option Field) → Means name x → Means name y → Means name (option_or x y)
means_or name None y first second = second
means_or name (Some f) y first second = first

protocol_means : (name : List ℕ) → Means name (protocol_field name)
unfolding protocol_field
protocol_means name =
    means_if name (bytes_eq name (codes "host")) (Some field.Host) _ tt
    (means_if name (bytes_eq name (codes "service")) (Some field.Service) _ tt
    (means_if name (bytes_eq name (codes "state")) (Some field.State) _ tt
    (means_if name (bytes_eq name (codes "description")) (Some field.Description) _ tt
    (means_if name (bytes_eq name (codes "time")) (Some field.Time) _ tt
    (means_if name (bytes_eq name (codes "ttl")) (Some field.Ttl) _ tt
    (means_if name (bytes_eq name (codes "metric")) (Some field.Metric) None tt tt))))))

field_means : (name : List ℕ) → Means name (named_field name)
unfolding named_field
field_means name =
    means_or name (protocol_field name) _ (protocol_means name)
    (means_if name (bytes_eq name (codes "metric_sint64")) (Some field.Metric) _ tt
    (means_if name (is_hidden name) None (Some (field.Attribute name)) tt refl))

field_good : (name : List ℕ) (f : Field) → named_field name ≡ Some f → IsName name → GoodField f
field_good name (field.Attribute key) is named =
    let same : key ≡ name = subst (λ (found : Option Field). Means name found) is (field_means name) in (
      subst (λ (text : List ℕ). IsName text) (sym same) named,
      subst (λ (text : List ℕ). named_field text ≡ Some (field.Attribute key)) (sym same) is,
    )
field_good name f is named = tt

abbrev GoodTest : Option Tree → Type 0
GoodTest None = Unit {0}
GoodTest (Some tree) = GoodTree tree

test_good : (f : Field) (o : Operator) (literal : Token) → GoodField f → Good literal → GoodTest (test_of f o literal)
test_good f operator.Equal (token.Quoted text) named good = (named, good)
test_good f operator.Equal (token.Number number) named good = (named, good)
test_good f operator.Equal token.Nil named good = (named, tt)
test_good f operator.Unequal (token.Quoted text) named good = (named, good)
test_good f operator.Unequal (token.Number number) named good = (named, good)
test_good f operator.Unequal token.Nil named good = (named, tt)
test_good f (operator.Order order) (token.Number number) named good = (named, good)
test_good f operator.Wild (token.Quoted pattern) named good = (named, good)
test_good f operator.Search (token.Quoted pattern) named good = (named, good)
test_good f o literal named good = tt

abbrev GoodList : List Tree → Type 0
GoodList [] = Unit {0}
GoodList (tree ∷ trees) = GoodTree tree × GoodList trees

abbrev NonEmpty : List Tree → Type 0
NonEmpty [] = ⊥
NonEmpty (tree ∷ trees) = Unit {0}

listed_good : (trees : List Tree) → GoodList trees → GoodTrees (listed trees)
listed_good [] good = tt
listed_good (tree ∷ trees) good = (good.0, listed_good trees good.1)

all_good : (trees : List Tree) → NonEmpty trees → GoodList trees → GoodTree (all_of trees)
all_good [] some good = absurd some
all_good (tree ∷ []) some good = good.0
all_good (tree ∷ second ∷ trees) some good = (tt, listed_good (tree ∷ second ∷ trees) good)

any_good : (trees : List Tree) → NonEmpty trees → GoodList trees → GoodTree (any_of trees)
any_good [] some good = absurd some
any_good (tree ∷ []) some good = good.0
any_good (tree ∷ second ∷ trees) some good = (tt, listed_good (tree ∷ second ∷ trees) good)

mutual
  anys_good : {tokens rest : List Token} {trees : List Tree} → IsAny tokens trees rest → AllGood tokens
      → NonEmpty trees × GoodList trees × AllGood rest
  anys_good (one_alternative {parts = parts} all) good =
      let (some, trees, rest) = alls_good all good in
      (tt, (all_good parts some trees, tt), rest)
  anys_good (more_alternatives {parts = parts} all any) good =
      let (some, trees, after) = alls_good all good in
      let (others_some, others, rest) = anys_good any after.1 in
      (tt, (all_good parts some trees, others), rest)

  alls_good : {tokens rest : List Token} {trees : List Tree} → IsAll tokens trees rest → AllGood tokens
      → NonEmpty trees × GoodList trees × AllGood rest
  alls_good (one_part one) good =
      let (tree, rest) = ones_good one good in
      (tt, (tree, tt), rest)
  alls_good (more_parts one all) good =
      let (tree, after) = ones_good one good in
      let (some, trees, rest) = alls_good all after.1 in
      (tt, (tree, trees), rest)

  ones_good : {tokens rest : List Token} {tree : Tree} → IsOne tokens tree rest → AllGood tokens
      → GoodTree tree × AllGood rest
  ones_good (negated one) good = ones_good one good.1
  ones_good (grouped {trees = trees} any) good =
      let (some, all, rest) = anys_good any good.1 in
      (any_good trees some all, rest.1)
  ones_good always good = (tt, good.1)
  ones_good never good = (tt, good.1)
  ones_good nothing good = (tt, good.1)
  ones_good tagged good = (good.1.0, good.1.1)
  ones_good (test {name = name} {field = f} {operator = o} {literal = literal} is tested) good = (
    subst (λ (found : Option Tree). GoodTest found) tested
        (test_good f o literal (field_good name f is good.0) good.1.1.0),
    good.1.1.1,
  )

pub query_good : (tokens : List Token) (trees : List Tree) → IsAny tokens trees [] → AllGood tokens
    → GoodTree (any_of trees)
query_good tokens trees any good = let (some, all, rest) = anys_good any good in any_good trees some all
