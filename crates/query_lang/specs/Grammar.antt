-- The grammar of queries, as a relation between tokens and the tree that they represent. A part of a query is read as
-- "the tokens are such a part, and then these": so each rule says how the first of them is made of smaller ones.
use Rattle.std.specs.Prelude.{◌≡◌, ℕ, Bool, true, false, List, [], ◌∷◌, ◌++◌, Option, Some, None}
use Rattle.ev_types.specs.declared.field.Field.{Field}
use Rattle.ev_types.specs.Names.{named_field}
use Rattle.ev_types.specs.declared.value.Value.TheVariants as value
use Rattle.pred_eval.specs.Tree.{Tree, Trees, Always, Never, Not, All, Any, Tagged, Equal, Order, Wild, Search, none}
use Rattle.pred_eval.specs.Tree.{also}
use Rattle.query_lang.specs.declared.token.Token.{Token}
use Rattle.query_lang.specs.declared.token.Token.TheVariants as token
use Rattle.query_lang.specs.declared.token.Operator.{Operator}
use Rattle.query_lang.specs.declared.token.Operator.TheVariants as operator

-- what a field is tested for, by the operator and the token after it
abbrev pub test_of : Field → Operator → Token → Option Tree
test_of field operator.Equal (token.Quoted text) = Some (Equal field (value.Text text))
test_of field operator.Equal (token.Number number) = Some (Equal field (value.Number number))
test_of field operator.Equal token.Nil = Some (Equal field value.Nil)
test_of field operator.Unequal (token.Quoted text) = Some (Not (Equal field (value.Text text)))
test_of field operator.Unequal (token.Number number) = Some (Not (Equal field (value.Number number)))
test_of field operator.Unequal token.Nil = Some (Not (Equal field value.Nil))
test_of field (operator.Order order) (token.Number number) = Some (Order field order number)
test_of field operator.Wild (token.Quoted pattern) = Some (Wild field pattern)
test_of field operator.Search (token.Quoted pattern) = Some (Search field pattern)
test_of field operator literal = None

abbrev pub listed : List Tree → Trees
listed [] = none
listed (tree ∷ trees) = also tree (listed trees)

-- two parts or more that `or` joins are Any, and those that `and` joins All; one part is itself
abbrev pub any_of : List Tree → Tree
any_of [] = Any none
any_of (tree ∷ []) = tree
any_of (tree ∷ second ∷ trees) = Any (listed (tree ∷ second ∷ trees))

abbrev pub all_of : List Tree → Tree
all_of [] = All none
all_of (tree ∷ []) = tree
all_of (tree ∷ second ∷ trees) = All (listed (tree ∷ second ∷ trees))

mutual
  -- parts that `or` joins, each of them parts that `and` joins
  pub data IsAny : List Token → List Tree → List Token → Type 0 where
    one_alternative : {tokens rest : List Token} {parts : List Tree} → IsAll tokens parts rest
        → IsAny tokens (all_of parts ∷ []) rest
    more_alternatives : {tokens after rest : List Token} {parts trees : List Tree}
        → IsAll tokens parts (token.Or ∷ after) → IsAny after trees rest → IsAny tokens (all_of parts ∷ trees) rest

  pub data IsAll : List Token → List Tree → List Token → Type 0 where
    one_part : {tokens rest : List Token} {tree : Tree} → IsOne tokens tree rest → IsAll tokens (tree ∷ []) rest
    more_parts : {tokens after rest : List Token} {tree : Tree} {trees : List Tree}
        → IsOne tokens tree (token.And ∷ after) → IsAll after trees rest → IsAll tokens (tree ∷ trees) rest

  pub data IsOne : List Token → Tree → List Token → Type 0 where
    negated : {tokens rest : List Token} {tree : Tree} → IsOne tokens tree rest
        → IsOne (token.Not ∷ tokens) (Not tree) rest
    grouped : {tokens rest : List Token} {trees : List Tree} → IsAny tokens trees (token.Close ∷ rest)
        → IsOne (token.Open ∷ tokens) (any_of trees) rest
    always : {rest : List Token} → IsOne (token.True ∷ rest) Always rest
    never : {rest : List Token} → IsOne (token.False ∷ rest) Never rest
    nothing : {rest : List Token} → IsOne (token.Nil ∷ rest) Never rest
    tagged : {tag : List ℕ} {rest : List Token} → IsOne (token.Tagged ∷ token.Quoted tag ∷ rest) (Tagged tag) rest
    test : {name : List ℕ} {field : Field} {operator : Operator} {literal : Token} {tree : Tree} {rest : List Token}
        → named_field name ≡ Some field → test_of field operator literal ≡ Some tree
        → IsOne (token.Name name ∷ token.Operator operator ∷ literal ∷ rest) tree rest

-- the tokens are a whole query, which represents the tree
abbrev pub IsQuery : List Token → Tree → Type 0
IsQuery tokens tree = (trees : List Tree) × IsAny tokens trees [] × (tree ≡ any_of trees)

-- the tokens are a prefix of a query, or a whole one
abbrev pub IsQueryPrefix : List Token → Type 0
IsQueryPrefix tokens = (more : List Token) × (tree : Tree) × IsQuery (tokens ++ more) tree

-- the tokens of which a query has 64 at most
abbrev pub is_opening : Token → Bool
is_opening token.Open = true
is_opening token.Not = true
is_opening t = false
