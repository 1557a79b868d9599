-- The grammar of predicates, as a relation: which forms, apart from their places, represent which rules. Each case
-- belongs to a row of the table in docs/CONFIGURATIONS.md.
use Rattle.std.specs.Prelude.{◌≡◌, ◌↔◌, ℕ, ℤ, List, [], ◌∷◌, codes, Some, None, Ok}
use Rattle.ev_types.specs.declared.field.Field.{Field}
use Rattle.ev_types.specs.declared.value.Value.{Value}
use Rattle.ev_types.specs.declared.value.Value.TheVariants as value
use Rattle.ev_types.specs.Names.{named_field, protocol_field}
use Rattle.pred_eval.specs.declared.rule.Ordering.{Ordering}
use Rattle.pred_eval.specs.declared.rule.Ordering.TheVariants.{Less, LessEqual, Greater, GreaterEqual}
use Rattle.pred_eval.specs.Tree.{Tree, Trees, Always, Never, Not, All, Any, Tagged, Equal, Order, Wild, Search, none}
use Rattle.pred_eval.specs.Tree.{also}
use Rattle.sexp_read.specs.declared.piece.Atom.TheVariants as atom
use Rattle.sexp_read.specs.declared.piece.Bracket.TheVariants.{Round}
use Rattle.sexp_read.specs.Tree.{FormTree}
use Rattle.sexp_read.specs.Written.{BareTree, BareTrees, Leaf, Branch, no_trees, and_trees, bare_tree, listed}
use Rattle.config_terms.specs.declared.binding.Bound.{Bound}
use Rattle.config_terms.specs.declared.binding.Bound.TheVariants as bound
use Rattle.config_terms.specs.Arguments.{Env, bound_value}
use Rattle.config_terms.specs.Rules.{rule_at}

-- ---- forms

abbrev pub symbol : List ℕ → BareTree
symbol name = Leaf (atom.Symbol name)

abbrev pub keyword : List ℕ → BareTree
keyword name = Leaf (atom.Keyword name)

-- a list
abbrev pub list : BareTrees → BareTree
list forms = Branch Round forms

-- a list that begins with the word
abbrev pub worded : List ℕ → BareTrees → BareTree
worded word forms = list (and_trees (symbol word) forms)

-- ---- arguments

-- a literal, or a name that is bound to it
pub data IsLiteral : Env → BareTree → Bound → Type 0 where
  a_text : {env : Env} {text : List ℕ} → IsLiteral env (Leaf (atom.Text text)) (bound.Text text)
  a_pattern : {env : Env} {text : List ℕ} → IsLiteral env (Leaf (atom.Pattern text)) (bound.Pattern text)
  a_number : {env : Env} {number : ℤ} → IsLiteral env (Leaf (atom.Number number)) (bound.Number number)
  a_keyword : {env : Env} {name : List ℕ} → IsLiteral env (keyword name) (bound.Keyword name)
  a_name : {env : Env} {name : List ℕ} {literal : Bound} → bound_value name env ≡ Some literal
      → IsLiteral env (symbol name) literal

-- a value is a string, a number or `nil`
pub data IsValue : Env → BareTree → Value → Type 0 where
  text_value : {env : Env} {form : BareTree} {text : List ℕ} → IsLiteral env form (bound.Text text)
      → IsValue env form (value.Text text)
  number_value : {env : Env} {form : BareTree} {number : ℤ} → IsLiteral env form (bound.Number number)
      → IsValue env form (value.Number number)
  nil_value : {env : Env} → bound_value (codes "nil") env ≡ None → IsValue env (symbol (codes "nil")) value.Nil

-- what a predicate tests, g: one of the seven names of fields, or a keyword that is a field. Names that are bound have
-- no meaning there
pub data IsTested : BareTree → Field → Type 0 where
  bare : {name : List ℕ} {field : Field} → protocol_field name ≡ Some field → IsTested (symbol name) field
  keyed : {name : List ℕ} {field : Field} → named_field name ≡ Some field → IsTested (keyword name) field

-- ---- predicates

-- the words that compare numbers
abbrev pub order_word : Ordering → List ℕ
order_word Less = codes "<"
order_word LessEqual = codes "<="
order_word Greater = codes ">"
order_word GreaterEqual = codes ">="

-- one part alone means that part
abbrev pub all_of : Tree → Trees → Tree
all_of rule none = rule
all_of rule (also second rules) = All (also rule (also second rules))

abbrev pub any_of : Tree → Trees → Tree
any_of rule none = rule
any_of rule (also second rules) = Any (also rule (also second rules))

mutual
  pub data IsPredicate : Env → BareTree → Tree → Type 0 where
    always : {env : Env} → IsPredicate env (symbol (codes "true")) Always
    never : {env : Env} → IsPredicate env (symbol (codes "false")) Never
    never_nil : {env : Env} → IsPredicate env (symbol (codes "nil")) Never
    all_parts : {env : Env} {part : BareTree} {parts : BareTrees} {rule : Tree} {rules : Trees}
        → IsPredicate env part rule → ArePredicates env parts rules
        → IsPredicate env (worded (codes "and") (and_trees part parts)) (all_of rule rules)
    any_part : {env : Env} {part : BareTree} {parts : BareTrees} {rule : Tree} {rules : Trees}
        → IsPredicate env part rule → ArePredicates env parts rules
        → IsPredicate env (worded (codes "or") (and_trees part parts)) (any_of rule rules)
    negated : {env : Env} {part : BareTree} {rule : Tree} → IsPredicate env part rule
        → IsPredicate env (worded (codes "not") (listed (part ∷ []))) (Not rule)
    tagged : {env : Env} {x : BareTree} {tag : List ℕ} → IsLiteral env x (bound.Text tag)
        → IsPredicate env (worded (codes "tagged") (listed (x ∷ []))) (Tagged tag)
    equal : {env : Env} {g v : BareTree} {field : Field} {held : Value} → IsTested g field → IsValue env v held
        → IsPredicate env (worded (codes "=") (listed (g ∷ v ∷ []))) (Equal field held)
    unequal : {env : Env} {g v : BareTree} {field : Field} {held : Value} → IsTested g field → IsValue env v held
        → IsPredicate env (worded (codes "not=") (listed (g ∷ v ∷ []))) (Not (Equal field held))
    compared : {env : Env} {g k : BareTree} {field : Field} {order : Ordering} {number : ℤ} → IsTested g field
        → IsLiteral env k (bound.Number number)
        → IsPredicate env (worded (order_word order) (listed (g ∷ k ∷ []))) (Order field order number)
    like : {env : Env} {g w : BareTree} {field : Field} {pattern : List ℕ} → IsTested g field
        → IsLiteral env w (bound.Text pattern)
        → IsPredicate env (worded (codes "like") (listed (g ∷ w ∷ []))) (Wild field pattern)
    holds : {env : Env} {g v : BareTree} {field : Field} {held : Value} → IsTested g field → IsValue env v held
        → IsPredicate env (list (listed (g ∷ v ∷ []))) (Equal field held)
    found : {env : Env} {g p : BareTree} {field : Field} {pattern : List ℕ} → IsTested g field
        → IsLiteral env p (bound.Pattern pattern)
        → IsPredicate env (list (listed (g ∷ p ∷ []))) (Search field pattern)

  -- predicates in a row
  pub data ArePredicates : Env → BareTrees → Trees → Type 0 where
    no_parts : {env : Env} → ArePredicates env no_trees none
    more_parts : {env : Env} {part : BareTree} {parts : BareTrees} {rule : Tree} {rules : Trees}
        → IsPredicate env part rule → ArePredicates env parts rules
        → ArePredicates env (and_trees part parts) (also rule rules)

-- a form is read as a rule exactly where it is a predicate that represents this rule
abbrev pub PredicatesAreRead : Type 0
PredicatesAreRead =
    (env : Env) (form : FormTree) (rule : Tree) → IsPredicate env (bare_tree form) rule ↔ (rule_at env form ≡ Ok rule)
