-- What is written of a tree: its tokens are a query for it, and they are read again.
use Rattle.std.proofs.Common.{◌≡◌, ℕ, Bool, true, false, cond, List, [], ◌∷◌, ◌++◌, codes, Some, refl, ap, sym, ◌∙◌}
use Rattle.std.proofs.Common.{subst, append_assoc}
use Rattle.std.specs.Str.{is_utf8}
use Rattle.std.specs.Fmt.{signed_decimal}
use Rattle.ev_types.specs.declared.field.Field.{Field}
use Rattle.ev_types.specs.declared.field.Field.TheVariants as field
use Rattle.ev_types.specs.declared.value.Value.{Value}
use Rattle.ev_types.specs.declared.value.Value.TheVariants as value
use Rattle.pred_eval.specs.declared.rule.Ordering.{Ordering}
use Rattle.pred_eval.specs.declared.rule.Ordering.TheVariants.{Less, LessEqual, Greater, GreaterEqual}
use Rattle.pred_eval.specs.Tree.{Tree, Trees, Always, Never, Not, All, Any, Tagged, Equal, Order, Wild, Search, none}
use Rattle.pred_eval.specs.Tree.{also}
use Rattle.query_lang.specs.declared.token.Token.{Token}
use Rattle.query_lang.specs.declared.token.Token.TheVariants as token
use Rattle.query_lang.specs.declared.token.Operator.{Operator}
use Rattle.query_lang.specs.declared.token.Operator.TheVariants as operator
use Rattle.query_lang.specs.declared.write.Under.{Under}
use Rattle.query_lang.specs.declared.write.Under.TheVariants as under
use Rattle.query_lang.specs.Tokens.{past_blanks, word_of, name_at, long_symbol, short_symbol, token_at}
use Rattle.ev_types.specs.Names.{protocol_field, named_field, field_name}
use Rattle.query_lang.specs.Grammar.{test_of, listed, any_of, all_of, IsAny, IsAll, IsOne, one_alternative}
use Rattle.query_lang.specs.Grammar.{more_alternatives, one_part, more_parts, negated, grouped as in_group, always}
use Rattle.query_lang.specs.Grammar.{never, tagged, test, IsQuery}
use Rattle.query_lang.specs.Queries.{Begins}
use Rattle.string_literals.specs.Literals.{string_literal}
use Rattle.query_lang.specs.Spelling.{value_spelling, order_symbol, groups_any, groups_all, grouped, spelling_under}
use Rattle.query_lang.specs.Spelling.{joined_spelling, more_spelling, spelling}
use Rattle.query_lang.specs.ReadBack.{IsReadable, IsReadBack}
use Rattle.query_lang.proofs.ReadBackLaws.{Separated, begins_blank, begins_name, begins_string, begins_number}
use Rattle.query_lang.proofs.ParserLaws.{append_nil}
use Rattle.query_lang.proofs.GoodTokens.{GoodField, GoodValue, Many, GoodTree, GoodTrees, tokens_good, query_good}

-- the tokens of what is written, and others after them

abbrev name_token : Field → Token
name_token field.Host = token.Name (codes "host")
name_token field.Service = token.Name (codes "service")
name_token field.State = token.Name (codes "state")
name_token field.Description = token.Name (codes "description")
name_token field.Time = token.Name (codes "time")
name_token field.Ttl = token.Name (codes "ttl")
name_token field.Metric = token.Name (codes "metric")
name_token (field.Attribute key) = token.Name key

abbrev value_token : Value → Token
value_token value.Nil = token.Nil
value_token (value.Number number) = token.Number number
value_token (value.Text text) = token.Quoted text

abbrev mutual
  tokens_under : Under → Tree → List Token → List Token
  tokens_under place Always more = token.True ∷ more
  tokens_under place Never more = token.False ∷ more
  tokens_under place (Not tree) more = token.Not ∷ tokens_under under.Not tree more
  tokens_under place (All trees) more =
      cond (groups_all place) (token.Open ∷ joined_tokens token.And under.All trees (token.Close ∷ more))
      (joined_tokens token.And under.All trees more)
  tokens_under place (Any trees) more =
      cond (groups_any place) (token.Open ∷ joined_tokens token.Or under.Any trees (token.Close ∷ more))
      (joined_tokens token.Or under.Any trees more)
  tokens_under place (Tagged tag) more = token.Tagged ∷ token.Quoted tag ∷ more
  tokens_under place (Equal f v) more = name_token f ∷ token.Operator operator.Equal ∷ value_token v ∷ more
  tokens_under place (Order f order number) more =
      name_token f ∷ token.Operator (operator.Order order) ∷ token.Number number ∷ more
  tokens_under place (Wild f pattern) more = name_token f ∷ token.Operator operator.Wild ∷ token.Quoted pattern ∷ more
  tokens_under place (Search f pattern) more =
      name_token f ∷ token.Operator operator.Search ∷ token.Quoted pattern ∷ more

  joined_tokens : Token → Under → Trees → List Token → List Token
  joined_tokens word place none more = more
  joined_tokens word place (also tree trees) more = tokens_under place tree (more_tokens word place trees more)

  more_tokens : Token → Under → Trees → List Token → List Token
  more_tokens word place none more = more
  more_tokens word place (also tree trees) more = word ∷ tokens_under place tree (more_tokens word place trees more)

-- The tokens are a query.

unlisted : Trees → List Tree
unlisted none = []
unlisted (also tree trees) = tree ∷ unlisted trees

listed_again : (trees : Trees) → listed (unlisted trees) ≡ trees
unfolding unlisted
listed_again none = refl
listed_again (also tree trees) = ap (also tree) (listed_again trees)

all_again : (trees : Trees) → Many trees → all_of (unlisted trees) ≡ All trees
unfolding unlisted
all_again none many = absurd many
all_again (also tree none) many = absurd many
all_again (also tree (also second trees)) many =
    ap (λ (rest : Trees). All (also tree (also second rest))) (listed_again trees)

any_again : (trees : Trees) → Many trees → any_of (unlisted trees) ≡ Any trees
unfolding unlisted
any_again none many = absurd many
any_again (also tree none) many = absurd many
any_again (also tree (also second trees)) many =
    ap (λ (rest : Trees). Any (also tree (also second rest))) (listed_again trees)

-- a whole operand is written there
abbrev Groups : Under → Tree → Type 0
Groups place (All trees) = groups_all place ≡ true
Groups place (Any trees) = groups_any place ≡ true
Groups place tree = Unit {0}

groups_under_all : (tree : Tree) → Groups under.All tree
groups_under_all Always = tt
groups_under_all Never = tt
groups_under_all (Not tree) = tt
groups_under_all (All trees) = refl
groups_under_all (Any trees) = refl
groups_under_all (Tagged tag) = tt
groups_under_all (Equal f v) = tt
groups_under_all (Order f o n) = tt
groups_under_all (Wild f p) = tt
groups_under_all (Search f p) = tt

groups_under_not : (tree : Tree) → Groups under.Not tree
groups_under_not Always = tt
groups_under_not Never = tt
groups_under_not (Not tree) = tt
groups_under_not (All trees) = refl
groups_under_not (Any trees) = refl
groups_under_not (Tagged tag) = tt
groups_under_not (Equal f v) = tt
groups_under_not (Order f o n) = tt
groups_under_not (Wild f p) = tt
groups_under_not (Search f p) = tt

test_is : (f : Field) (o : Operator) (literal : Token) (tree : Tree) (more : List Token) → GoodField f
    → test_of f o literal ≡ Some tree
    → IsOne (name_token f ∷ token.Operator o ∷ literal ∷ more) tree more
unfolding named_field protocol_field
test_is field.Host o literal tree more good is = test refl is
test_is field.Service o literal tree more good is = test refl is
test_is field.State o literal tree more good is = test refl is
test_is field.Description o literal tree more good is = test refl is
test_is field.Time o literal tree more good is = test refl is
test_is field.Ttl o literal tree more good is = test refl is
test_is field.Metric o literal tree more good is = test refl is
test_is (field.Attribute key) o literal tree more good is = test good.1 is

equal_is : (f : Field) (v : Value) → test_of f operator.Equal (value_token v) ≡ Some (Equal f v)
equal_is f value.Nil = refl
equal_is f (value.Number number) = refl
equal_is f (value.Text text) = refl

-- as a whole operand, and as what is under Any
abbrev Written : Tree → Type 0
Written tree =
    ((place : Under) → Groups place tree → (more : List Token) → IsOne (tokens_under place tree more) tree more)
    × ((more : List Token)
    → (parts : List Tree) × IsAll (tokens_under under.Any tree more) parts more × (all_of parts ≡ tree))

operand : (tree : Tree)
    → ((place : Under) → Groups place tree → (more : List Token) → IsOne (tokens_under place tree more) tree more)
    → Groups under.Any tree → Written tree
operand tree first groups = (first, λ more. (tree ∷ [], one_part (first under.Any groups more), refl))

group_of_all : (trees : Trees) → Many trees
    → ((more : List Token) → IsAll (joined_tokens token.And under.All trees more) (unlisted trees) more)
    → (place : Under) → groups_all place ≡ true → (more : List Token)
    → IsOne (tokens_under place (All trees) more) (All trees) more
group_of_all trees many parts place groups more =
    let open_tokens = token.Open ∷ joined_tokens token.And under.All trees (token.Close ∷ more) in
    let group : IsOne open_tokens (all_of (unlisted trees)) more =
    in_group (one_alternative (parts (token.Close ∷ more))) in
    let whole = subst (λ (tree : Tree). IsOne open_tokens tree more) (all_again trees many) group in
    subst
    (λ (test : Bool). IsOne (cond test open_tokens (joined_tokens token.And under.All trees more)) (All trees) more)
    (sym groups) whole

group_of_any : (trees : Trees) → Many trees
    → ((more : List Token) → IsAny (joined_tokens token.Or under.Any trees more) (unlisted trees) more)
    → (place : Under) → groups_any place ≡ true → (more : List Token)
    → IsOne (tokens_under place (Any trees) more) (Any trees) more
group_of_any trees many alternatives place groups more =
    let open_tokens = token.Open ∷ joined_tokens token.Or under.Any trees (token.Close ∷ more) in
    let group : IsOne open_tokens (any_of (unlisted trees)) more = in_group (alternatives (token.Close ∷ more)) in
    let whole = subst (λ (tree : Tree). IsOne open_tokens tree more) (any_again trees many) group in
    subst
    (λ (test : Bool). IsOne (cond test open_tokens (joined_tokens token.Or under.Any trees more)) (Any trees) more)
    (sym groups) whole

one_any : (tree : Tree) (more after : List Token)
    → ((parts : List Tree) × IsAll after parts more × (all_of parts ≡ tree)) → IsAny after (tree ∷ []) more
one_any tree more after (parts, all, same) =
    subst (λ (tree : Tree). IsAny after (tree ∷ []) more) same (one_alternative all)

more_any : (tree : Tree) (trees : List Tree) (more following after : List Token)
    → ((parts : List Tree) × IsAll after parts (token.Or ∷ following) × (all_of parts ≡ tree))
    → IsAny following trees more → IsAny after (tree ∷ trees) more
more_any tree trees more following after (parts, all, same) any =
    subst (λ (tree : Tree). IsAny after (tree ∷ trees) more) same (more_alternatives all any)

mutual
  unfolding unlisted

  written : (tree : Tree) → GoodTree tree → Written tree
  written Always good = operand Always (λ place groups more. always) tt
  written Never good = operand Never (λ place groups more. never) tt
  written (Not tree) good =
      operand (Not tree) (λ place groups more. negated ((written tree good).0 under.Not (groups_under_not tree) more))
      tt
  written (All trees) good = (
    group_of_all trees good.0 (λ more. parts_written trees good.0 good.1 more),
    λ more. (unlisted trees, parts_written trees good.0 good.1 more, all_again trees good.0),
  )
  written (Any trees) good =
      operand (Any trees) (group_of_any trees good.0 (λ more. alternatives_written trees good.0 good.1 more)) refl
  written (Tagged tag) good = operand (Tagged tag) (λ place groups more. tagged) tt
  written (Equal f v) good =
      operand (Equal f v)
      (λ place groups more. test_is f operator.Equal (value_token v) (Equal f v) more good.0 (equal_is f v)) tt
  written (Order f order number) good =
      operand (Order f order number)
      (λ place groups more.
      test_is f (operator.Order order) (token.Number number) (Order f order number) more good.0 refl)
      tt
  written (Wild f pattern) good =
      operand (Wild f pattern)
      (λ place groups more. test_is f operator.Wild (token.Quoted pattern) (Wild f pattern) more good.0 refl) tt
  written (Search f pattern) good =
      operand (Search f pattern)
      (λ place groups more. test_is f operator.Search (token.Quoted pattern) (Search f pattern) more good.0 refl) tt

  parts_written : (trees : Trees) → Many trees → GoodTrees trees → (more : List Token)
      → IsAll (joined_tokens token.And under.All trees more) (unlisted trees) more
  parts_written none many good more = absurd many
  parts_written (also tree trees) many good more =
      parts_after trees good.1 tree ((written tree good.0).0 under.All (groups_under_all tree)) more

  parts_after : (trees : Trees) → GoodTrees trees → (tree : Tree)
      → ((more : List Token) → IsOne (tokens_under under.All tree more) tree more) → (more : List Token)
      → IsAll (tokens_under under.All tree (more_tokens token.And under.All trees more)) (tree ∷ unlisted trees) more
  parts_after none good tree first more = one_part (first more)
  parts_after (also second trees) good tree first more =
      more_parts (first (token.And ∷ tokens_under under.All second (more_tokens token.And under.All trees more)))
      (parts_after trees good.1 second ((written second good.0).0 under.All (groups_under_all second)) more)

  alternatives_written : (trees : Trees) → Many trees → GoodTrees trees → (more : List Token)
      → IsAny (joined_tokens token.Or under.Any trees more) (unlisted trees) more
  alternatives_written none many good more = absurd many
  alternatives_written (also tree trees) many good more =
      alternatives_after trees good.1 tree (written tree good.0).1 more

  alternatives_after : (trees : Trees) → GoodTrees trees → (tree : Tree)
      → ((more : List Token)
      → (parts : List Tree) × IsAll (tokens_under under.Any tree more) parts more × (all_of parts ≡ tree))
      → (more : List Token)
      → IsAny (tokens_under under.Any tree (more_tokens token.Or under.Any trees more)) (tree ∷ unlisted trees) more
  alternatives_after none good tree first more = one_any tree more (tokens_under under.Any tree more) (first more)
  alternatives_after (also second trees) good tree first more =
      let following = tokens_under under.Any second (more_tokens token.Or under.Any trees more) in
      more_any tree (second ∷ unlisted trees) more following (tokens_under under.Any tree (token.Or ∷ following))
      (first (token.Or ∷ following)) (alternatives_after trees good.1 second (written second good.0).1 more)

under_any_is : (tree : Tree)
    → ((parts : List Tree) × IsAll (tokens_under under.Any tree []) parts [] × (all_of parts ≡ tree))
    → IsQuery (tokens_under under.Any tree []) tree
under_any_is tree (parts, all, same) = (all_of parts ∷ [], one_alternative all, sym same)

query_written : (tree : Tree) → GoodTree tree → IsQuery (tokens_under under.Query tree []) tree
query_written Always good = under_any_is Always ((written Always good).1 [])
query_written Never good = under_any_is Never ((written Never good).1 [])
query_written (Not tree) good = under_any_is (Not tree) ((written (Not tree) good).1 [])
query_written (All trees) good = under_any_is (All trees) ((written (All trees) good).1 [])
query_written (Any trees) good =
    (unlisted trees, alternatives_written trees good.0 good.1 [], sym (any_again trees good.0))
query_written (Tagged tag) good = under_any_is (Tagged tag) ((written (Tagged tag) good).1 [])
query_written (Equal f v) good = under_any_is (Equal f v) ((written (Equal f v) good).1 [])
query_written (Order f o n) good = under_any_is (Order f o n) ((written (Order f o n) good).1 [])
query_written (Wild f p) good = under_any_is (Wild f p) ((written (Wild f p) good).1 [])
query_written (Search f p) good = under_any_is (Search f p) ((written (Search f p) good).1 [])

-- The tokens are those of the text.

close_read : (rest : List ℕ) → token_at (41 ∷ rest) ≡ Some (token.Close, rest)
unfolding token_at long_symbol short_symbol
close_read [] = refl
close_read (c ∷ rest) = refl

open_read : (rest : List ℕ) → token_at (40 ∷ 32 ∷ rest) ≡ Some (token.Open, 32 ∷ rest)
unfolding token_at long_symbol short_symbol
open_read rest = refl

ReadsAs : List ℕ → Token → Type 0
ReadsAs word t = (rest : List ℕ) → Separated rest → token_at (past_blanks (word ++ rest)) ≡ Some (t, rest)

ends_apart : (word : List ℕ) (t : Token) → token_at (past_blanks (word ++ [])) ≡ Some (t, [])
    → ((bytes : List ℕ) → token_at (past_blanks (word ++ 32 ∷ bytes)) ≡ Some (t, 32 ∷ bytes)) → ReadsAs word t
unfolding ReadsAs
ends_apart word t alone before [] ends = alone
ends_apart word t alone before (b ∷ rest) ends =
    subst (λ (b : ℕ). token_at (past_blanks (word ++ b ∷ rest)) ≡ Some (t, b ∷ rest)) (sym ends) (before rest)

true_read : ReadsAs (codes "true") token.True
unfolding token_at name_at word_of
true_read = ends_apart (codes "true") token.True refl (λ bytes. refl)

false_read : ReadsAs (codes "false") token.False
unfolding token_at name_at word_of
false_read = ends_apart (codes "false") token.False refl (λ bytes. refl)

nil_read : ReadsAs (codes "nil") token.Nil
unfolding token_at name_at word_of
nil_read = ends_apart (codes "nil") token.Nil refl (λ bytes. refl)

not_read : (bytes : List ℕ) → token_at (codes "not" ++ 32 ∷ bytes) ≡ Some (token.Not, 32 ∷ bytes)
unfolding token_at name_at word_of
not_read bytes = refl

tagged_read : (bytes : List ℕ) → token_at (codes "tagged" ++ 32 ∷ bytes) ≡ Some (token.Tagged, 32 ∷ bytes)
unfolding token_at name_at word_of
tagged_read bytes = refl

and_read : (bytes : List ℕ) → token_at (past_blanks (codes " and " ++ bytes)) ≡ Some (token.And, 32 ∷ bytes)
unfolding token_at name_at word_of
and_read bytes = refl

or_read : (bytes : List ℕ) → token_at (past_blanks (codes " or " ++ bytes)) ≡ Some (token.Or, 32 ∷ bytes)
unfolding token_at name_at word_of
or_read bytes = refl

field_read : (f : Field) (bytes : List ℕ) → GoodField f
    → token_at (past_blanks (field_name f ++ 32 ∷ bytes)) ≡ Some (name_token f, 32 ∷ bytes)
unfolding token_at name_at word_of
field_read field.Host bytes good = refl
field_read field.Service bytes good = refl
field_read field.State bytes good = refl
field_read field.Description bytes good = refl
field_read field.Time bytes good = refl
field_read field.Ttl bytes good = refl
field_read field.Metric bytes good = refl
field_read (field.Attribute key) bytes good = begins_name key (32 ∷ bytes) good.0 refl

value_read : (v : Value) (rest : List ℕ) → GoodValue v → Separated rest
    → token_at (past_blanks (value_spelling v ++ rest)) ≡ Some (value_token v, rest)
unfolding ReadsAs
value_read value.Nil rest good ends = nil_read rest ends
value_read (value.Number number) rest good ends = begins_number number rest good ends
value_read (value.Text text) rest good ends = begins_string text rest good

equal_read : (bytes : List ℕ)
    → token_at (past_blanks (codes " = " ++ bytes)) ≡ Some (token.Operator operator.Equal, 32 ∷ bytes)
unfolding token_at long_symbol short_symbol
equal_read bytes = refl

wild_read : (bytes : List ℕ)
    → token_at (past_blanks (codes " =~ " ++ bytes)) ≡ Some (token.Operator operator.Wild, 32 ∷ bytes)
unfolding token_at long_symbol short_symbol
wild_read bytes = refl

search_read : (bytes : List ℕ)
    → token_at (past_blanks (codes " ~= " ++ bytes)) ≡ Some (token.Operator operator.Search, 32 ∷ bytes)
unfolding token_at long_symbol short_symbol
search_read bytes = refl

order_read : (order : Ordering) (bytes : List ℕ)
    → token_at (past_blanks (order_symbol order ++ bytes)) ≡ Some (token.Operator (operator.Order order), 32 ∷ bytes)
unfolding token_at long_symbol short_symbol
order_read Less bytes = refl
order_read LessEqual bytes = refl
order_read Greater bytes = refl
order_read GreaterEqual bytes = refl

-- a name, an operator that begins with a blank, and a literal
test_begins : (f : Field) (symbol literal rest : List ℕ) (o : Operator) (t : Token) (more : List Token) (last : List ℕ)
    → GoodField f
    → ((bytes : List ℕ) → (after : List ℕ) × (symbol ++ bytes ≡ 32 ∷ after))
    → ((bytes : List ℕ) → token_at (past_blanks (symbol ++ bytes)) ≡ Some (token.Operator o, 32 ∷ bytes))
    → token_at (past_blanks (literal ++ rest)) ≡ Some (t, rest) → Begins rest more last
    → Begins ((field_name f ++ (symbol ++ literal)) ++ rest) (name_token f ∷ token.Operator o ∷ t ∷ more) last
test_begins f symbol literal rest o t more last good blank read_symbol read_literal begins =
    let (after, opens) = blank (literal ++ rest) in
    let text : (field_name f ++ (symbol ++ literal)) ++ rest ≡ field_name f ++ (symbol ++ (literal ++ rest)) =
    append_assoc (field_name f) (symbol ++ literal) rest
    ∙ ap (λ (all : List ℕ). field_name f ++ all) (append_assoc symbol literal rest) in
    let name : token_at (past_blanks (field_name f ++ (symbol ++ (literal ++ rest))))
    ≡ Some (name_token f, symbol ++ (literal ++ rest)) =
    subst (λ (all : List ℕ). token_at (past_blanks (field_name f ++ all)) ≡ Some (name_token f, all)) (sym opens)
    (field_read f after good) in
    let following : Begins (literal ++ rest) (t ∷ more) last = (rest, read_literal, begins) in
    subst (λ (all : List ℕ). Begins all (name_token f ∷ token.Operator o ∷ t ∷ more) last) (sym text) (
      symbol ++ (literal ++ rest),
      name,
      (32 ∷ (literal ++ rest), read_symbol (literal ++ rest), begins_blank (literal ++ rest) (t ∷ more) last following),
    )

-- tokens that a text gives, whatever comes after it
abbrev Spells : List ℕ → (List Token → List Token) → Type 0
Spells text tokens =
    (rest : List ℕ) (more : List Token) (last : List ℕ) → Separated rest → Begins rest more last
    → Begins (text ++ rest) (tokens more) last

grouped_spells : (test : Bool) (text : List ℕ) (tokens : List Token → List Token) → Spells text tokens
    → Spells (grouped test text) (λ more. cond test (token.Open ∷ tokens (token.Close ∷ more)) (tokens more))
grouped_spells false text tokens spells rest more last ends begins = spells rest more last ends begins
grouped_spells true text tokens spells rest more last ends begins =
    let closing : Begins (32 ∷ 41 ∷ rest) (token.Close ∷ more) last = (rest, close_read rest, begins) in
    let inner : Begins (text ++ 32 ∷ 41 ∷ rest) (tokens (token.Close ∷ more)) last =
    spells (32 ∷ 41 ∷ rest) (token.Close ∷ more) last refl closing in
    let whole : (grouped true text) ++ rest ≡ codes "( " ++ (text ++ 32 ∷ 41 ∷ rest) =
    append_assoc (codes "( " ++ text) (codes " )") rest ∙ append_assoc (codes "( ") text (32 ∷ 41 ∷ rest) in
    let opening : Begins (codes "( " ++ (text ++ 32 ∷ 41 ∷ rest)) (token.Open ∷ tokens (token.Close ∷ more)) last = (
      32 ∷ (text ++ 32 ∷ 41 ∷ rest),
      open_read (text ++ 32 ∷ 41 ∷ rest),
      begins_blank (text ++ 32 ∷ 41 ∷ rest) (tokens (token.Close ∷ more)) last inner,
    ) in
    subst (λ (all : List ℕ). Begins all (token.Open ∷ tokens (token.Close ∷ more)) last) (sym whole) opening

word_spells : (word : List ℕ) (t : Token) → ReadsAs word t → Spells word (λ more. t ∷ more)
unfolding ReadsAs
word_spells word t read rest more last ends begins = (rest, read rest ends, begins)

not_spells : (text : List ℕ) (tokens : List Token → List Token) → Spells text tokens
    → Spells (codes "not " ++ text) (λ more. token.Not ∷ tokens more)
not_spells text tokens spells rest more last ends begins = (
  32 ∷ (text ++ rest),
  not_read (text ++ rest),
  begins_blank (text ++ rest) (tokens more) last (spells rest more last ends begins),
)

tagged_spells : (tag : List ℕ) → is_utf8 tag ≡ true
    → Spells (codes "tagged " ++ string_literal tag) (λ more. token.Tagged ∷ token.Quoted tag ∷ more)
tagged_spells tag utf8 rest more last ends begins =
    let string : Begins (string_literal tag ++ rest) (token.Quoted tag ∷ more) last =
    (rest, begins_string tag rest utf8, begins) in (
      32 ∷ (string_literal tag ++ rest),
      tagged_read (string_literal tag ++ rest),
      begins_blank (string_literal tag ++ rest) (token.Quoted tag ∷ more) last string,
    )

test_spells : (f : Field) (symbol literal : List ℕ) (o : Operator) (t : Token) → GoodField f
    → ((bytes : List ℕ) → (after : List ℕ) × (symbol ++ bytes ≡ 32 ∷ after))
    → ((bytes : List ℕ) → token_at (past_blanks (symbol ++ bytes)) ≡ Some (token.Operator o, 32 ∷ bytes))
    → ((rest : List ℕ) → Separated rest → token_at (past_blanks (literal ++ rest)) ≡ Some (t, rest))
    → Spells (field_name f ++ (symbol ++ literal)) (λ more. name_token f ∷ token.Operator o ∷ t ∷ more)
test_spells f symbol literal o t good blank read_symbol read_literal rest more last ends begins =
    test_begins f symbol literal rest o t more last good blank read_symbol (read_literal rest ends) begins

order_blank : (order : Ordering) (bytes : List ℕ) → (after : List ℕ) × (order_symbol order ++ bytes ≡ 32 ∷ after)
order_blank Less bytes = (60 ∷ 32 ∷ bytes, refl)
order_blank LessEqual bytes = (60 ∷ 61 ∷ 32 ∷ bytes, refl)
order_blank Greater bytes = (62 ∷ 32 ∷ bytes, refl)
order_blank GreaterEqual bytes = (62 ∷ 61 ∷ 32 ∷ bytes, refl)

-- a word between rules
record Between (word : List ℕ) (t : Token) : Type 0 where
  read : (bytes : List ℕ) → token_at (past_blanks (word ++ bytes)) ≡ Some (t, 32 ∷ bytes)
  apart : (bytes : List ℕ) → Separated (word ++ bytes)

and_between : Between (codes " and ") token.And
and_between = record { read = and_read; apart = λ bytes. refl }

or_between : Between (codes " or ") token.Or
or_between = record { read = or_read; apart = λ bytes. refl }

more_apart : (word : List ℕ) (t : Token) (place : Under) (trees : Trees) (rest : List ℕ) → Between word t
    → Separated rest → Separated (more_spelling word place trees ++ rest)
more_apart word t place none rest between ends = ends
more_apart word t place (also tree trees) rest between ends =
    let text : (more_spelling word place (also tree trees)) ++ rest
    ≡ word ++ ((spelling_under place tree ++ more_spelling word place trees) ++ rest) =
    ap (λ (all : List ℕ). all ++ rest) (append_assoc word (spelling_under place tree) (more_spelling word place trees))
    ∙ append_assoc word (spelling_under place tree ++ more_spelling word place trees) rest in
    subst (λ (all : List ℕ). Separated all) (sym text)
    (between.apart ((spelling_under place tree ++ more_spelling word place trees) ++ rest))

then_more : (text more_text : List ℕ) (tokens more_of : List Token → List Token)
    → ((rest : List ℕ) → Separated rest → Separated (more_text ++ rest)) → Spells text tokens → Spells more_text more_of
    → Spells (text ++ more_text) (λ more. tokens (more_of more))
then_more text more_text tokens more_of apart first second rest more last ends begins =
    subst (λ (all : List ℕ). Begins all (tokens (more_of more)) last) (sym (append_assoc text more_text rest))
    (first (more_text ++ rest) (more_of more) last (apart rest ends) (second rest more last ends begins))

after_word : (word text : List ℕ) (t : Token) (tokens : List Token → List Token) → Between word t → Spells text tokens
    → Spells (word ++ text) (λ more. t ∷ tokens more)
after_word word text t tokens between spells rest more last ends begins =
    let following = begins_blank (text ++ rest) (tokens more) last (spells rest more last ends begins) in
    subst (λ (all : List ℕ). Begins all (t ∷ tokens more) last) (sym (append_assoc word text rest))
    (32 ∷ (text ++ rest), between.read (text ++ rest), following)

mutual
  rule_spells : (tree : Tree) → GoodTree tree → (place : Under)
      → Spells (spelling_under place tree) (tokens_under place tree)
  rule_spells Always good place = word_spells (codes "true") token.True true_read
  rule_spells Never good place = word_spells (codes "false") token.False false_read
  rule_spells (Not tree) good place =
      not_spells (spelling_under under.Not tree) (tokens_under under.Not tree) (rule_spells tree good under.Not)
  rule_spells (All trees) good place =
      grouped_spells (groups_all place) (joined_spelling (codes " and ") under.All trees)
      (joined_tokens token.And under.All trees)
      (joined_spells trees good.1 (codes " and ") token.And under.All and_between)
  rule_spells (Any trees) good place =
      grouped_spells (groups_any place) (joined_spelling (codes " or ") under.Any trees)
      (joined_tokens token.Or under.Any trees)
      (joined_spells trees good.1 (codes " or ") token.Or under.Any or_between)
  rule_spells (Tagged tag) good place = tagged_spells tag good
  rule_spells (Equal f v) good place =
      test_spells f (codes " = ") (value_spelling v) operator.Equal (value_token v) good.0
      (λ bytes. (61 ∷ 32 ∷ bytes, refl)) equal_read (λ rest ends. value_read v rest good.1 ends)
  rule_spells (Order f order number) good place =
      test_spells f (order_symbol order) (signed_decimal number) (operator.Order order) (token.Number number) good.0
      (order_blank order) (order_read order)
      (λ rest ends. begins_number number rest good.1 ends)
  rule_spells (Wild f pattern) good place =
      test_spells f (codes " =~ ") (string_literal pattern) operator.Wild (token.Quoted pattern) good.0
      (λ bytes. (61 ∷ 126 ∷ 32 ∷ bytes, refl)) wild_read
      (λ rest ends. begins_string pattern rest good.1)
  rule_spells (Search f pattern) good place =
      test_spells f (codes " ~= ") (string_literal pattern) operator.Search (token.Quoted pattern) good.0
      (λ bytes. (126 ∷ 61 ∷ 32 ∷ bytes, refl)) search_read
      (λ rest ends. begins_string pattern rest good.1)

  joined_spells : (trees : Trees) → GoodTrees trees → (word : List ℕ) (t : Token) (place : Under) → Between word t
      → Spells (joined_spelling word place trees) (joined_tokens t place trees)
  joined_spells none good word t place between = λ rest more last ends begins. begins
  joined_spells (also tree trees) good word t place between =
      then_more (spelling_under place tree) (more_spelling word place trees) (tokens_under place tree)
      (more_tokens t place trees)
      (λ rest ends. more_apart word t place trees rest between ends) (rule_spells tree good.0 place)
      (more_spells trees good.1 word t place between)

  more_spells : (trees : Trees) → GoodTrees trees → (word : List ℕ) (t : Token) (place : Under) → Between word t
      → Spells (more_spelling word place trees) (more_tokens t place trees)
  more_spells none good word t place between = λ rest more last ends begins. begins
  more_spells (also tree trees) good word t place between =
      then_more (word ++ spelling_under place tree) (more_spelling word place trees)
      (λ more. t ∷ tokens_under place tree more) (more_tokens t place trees)
      (λ rest ends. more_apart word t place trees rest between ends)
      (after_word word (spelling_under place tree) t (tokens_under place tree) between (rule_spells tree good.0 place))
      (more_spells trees good.1 word t place between)

pub read_back : (tree : Tree) → IsReadable tree → IsReadBack tree
read_back tree (text, (short, is)) =
    let (trees, any, same) = is.query in
    let good : GoodTree tree =
    subst (λ (tree : Tree). GoodTree tree) (sym same)
    (query_good is.tokens trees any (tokens_good text is.tokens [] is.text_is)) in
    let tokens = tokens_under under.Query tree [] in
    let begins : Begins (spelling tree) tokens [] =
    subst (λ (all : List ℕ). Begins all tokens []) (append_nil (spelling tree))
    (rule_spells tree good under.Query [] [] [] tt refl) in
    let query = query_written tree good in
    record {
      tokens = tokens;
      text_is = begins;
      query = query;
      reads = λ small few. (small, record { tokens = tokens; text_is = begins; query = query; few = few });
    }
