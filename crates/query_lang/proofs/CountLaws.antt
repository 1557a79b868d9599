-- How many `(` and `not` a parser has taken.
use Rattle.std.proofs.Common.{◌≡◌, ℕ, ◌+◌, ◌≤◌, false, cond, List, [], ◌∷◌, ◌++◌, Option, Some, None, refl, subst}
use Rattle.std.proofs.Common.{arith}
use Rattle.std.proofs.lemmas.List.Sums.{sum_by-append}
use Rattle.std.specs.Option.{option_map}
use Rattle.ev_types.specs.declared.field.Field.{Field}
use Rattle.pred_eval.specs.Tree.{Tree}
use Rattle.query_lang.specs.declared.parser.Wants.{Wants}
use Rattle.query_lang.specs.declared.parser.Wants.TheVariants as wants
use Rattle.query_lang.specs.declared.token.Operator.{Operator}
use Rattle.query_lang.specs.declared.token.Operator.TheVariants as operator
use Rattle.query_lang.specs.declared.token.Token.{Token}
use Rattle.query_lang.specs.declared.token.Token.TheVariants as token
use Rattle.ev_types.specs.Names.{named_field}
use Rattle.query_lang.specs.Grammar.{test_of, is_opening}
use Rattle.query_lang.specs.Parsing.{Group, State, operand_step, tag_step, operator_step, joint_step, step_at, step}
use Rattle.query_lang.specs.Parsing.{joined, closed}
use Rattle.query_lang.specs.Queries.{openings}

-- no group has more of `not` waiting than there were
abbrev FewNots : ℕ → List Group → Type 0
FewNots count [] = Unit {0}
FewNots count (group ∷ groups) = (group.nots ≤ count) × FewNots count groups

few_more : (count : ℕ) (groups : List Group) → FewNots count groups → FewNots (count + 1) groups
few_more count [] few = tt
few_more count (group ∷ groups) few = (omega arith, few_more count groups few.1)

pub record Counted (state : State) : Type 0 where
  pub group : state.group.nots ≤ state.openings
  pub outer : FewNots state.openings state.outer

-- what one token more changes
pub record Counts (state : State) (t : Token) (next : State) : Type 0 where
  pub openings_are : next.openings ≡ state.openings + openings (t ∷ [])
  pub counted : Counted state → Counted next

-- nothing is said where the token may not come
abbrev Stepped : State → Token → Option State → Type 0
Stepped state t None = Unit {0}
Stepped state t (Some next) = Counts state t next

same_count : (state : State) (t : Token) (next : State) → is_opening t ≡ false → next.openings ≡ state.openings
    → (Counted state → Counted next) → Counts state t next
same_count state t next plain same counted = record { openings_are = rw plain (omega arith); counted = counted }

name_counts : (state : State) (name : List ℕ) (found : Option Field)
    → Stepped state (token.Name name)
    (option_map
    (λ field.
    record { outer = state.outer; group = state.group; openings = state.openings; wants = wants.Operator field })
    found)
name_counts state name None = tt
name_counts state name (Some field) =
    same_count state (token.Name name) _ refl refl (λ c. record { group = c.group; outer = c.outer })

operand_counts : (state : State) (t : Token) → Stepped state t (operand_step state t)
operand_counts state token.Open = record {
  openings_are = refl;
  counted =
      λ c.
      record { group = omega arith; outer = (omega (arith, c.group), few_more state.openings state.outer c.outer) };
}
operand_counts state token.Not = record {
  openings_are = refl;
  counted = λ c. record { group = omega (arith, c.group); outer = few_more state.openings state.outer c.outer };
}
operand_counts state token.True =
    same_count state token.True _ refl refl (λ c. record { group = omega arith; outer = c.outer })
operand_counts state token.False =
    same_count state token.False _ refl refl (λ c. record { group = omega arith; outer = c.outer })
operand_counts state token.Nil =
    same_count state token.Nil _ refl refl (λ c. record { group = omega arith; outer = c.outer })
operand_counts state token.Tagged =
    same_count state token.Tagged _ refl refl (λ c. record { group = c.group; outer = c.outer })
operand_counts state (token.Name name) = name_counts state name (named_field name)
operand_counts state t = tt

tag_counts : (state : State) (t : Token) → Stepped state t (tag_step state t)
tag_counts state (token.Quoted tag) =
    same_count state (token.Quoted tag) _ refl refl (λ c. record { group = omega arith; outer = c.outer })
tag_counts state t = tt

operator_counts : (field : Field) (state : State) (t : Token) → Stepped state t (operator_step field state t)
operator_counts field state (token.Operator operator) =
    same_count state (token.Operator operator) _ refl refl (λ c. record { group = c.group; outer = c.outer })
operator_counts field state t = tt

close_counts : (outer : List Group) (state : State) → (Counted state → FewNots state.openings outer)
    → Stepped state token.Close (closed outer state)
close_counts [] state few = tt
close_counts (around ∷ outer) state few =
    same_count state token.Close _ refl refl (λ c. record { group = omega arith; outer = (few c).1 })

joint_counts : (state : State) (t : Token) → Stepped state t (joint_step state t)
joint_counts state token.And = same_count state token.And _ refl refl (λ c. record { group = c.group; outer = c.outer })
joint_counts state token.Or = same_count state token.Or _ refl refl (λ c. record { group = c.group; outer = c.outer })
joint_counts state token.Close = close_counts state.outer state (λ c. c.outer)
joint_counts state t = tt

-- no test has such a token
no_open : (field : Field) (operator : Operator) → test_of field operator token.Open ≡ None
no_open field operator.Equal = refl
no_open field operator.Unequal = refl
no_open field (operator.Order order) = refl
no_open field operator.Wild = refl
no_open field operator.Search = refl

no_not : (field : Field) (operator : Operator) → test_of field operator token.Not ≡ None
no_not field operator.Equal = refl
no_not field operator.Unequal = refl
no_not field (operator.Order order) = refl
no_not field operator.Wild = refl
no_not field operator.Search = refl

test_plain : (field : Field) (operator : Operator) (t : Token) (tree : Tree) → test_of field operator t ≡ Some tree
    → is_opening t ≡ false
test_plain field operator token.Open tree e = let none = no_open field operator in cc
test_plain field operator token.Not tree e = let none = no_not field operator in cc
test_plain field operator t tree e = refl

literal_counts : (field : Field) (operator : Operator) (state : State) (t : Token) (found : Option Tree)
    → test_of field operator t ≡ found
    → Stepped state t (option_map (λ tree. joined tree state) found)
literal_counts field operator state t None is = tt
literal_counts field operator state t (Some tree) is =
    same_count state t _ (test_plain field operator t tree is) refl
    (λ c. record { group = omega arith; outer = c.outer })

stepped : (state : State) (t : Token) (next : Wants) → Stepped state t (step_at next state t)
stepped state t wants.Operand = operand_counts state t
stepped state t wants.Tag = tag_counts state t
stepped state t (wants.Operator field) = operator_counts field state t
stepped state t (wants.Literal field operator) = literal_counts field operator state t (test_of field operator t) refl
stepped state t wants.Joint = joint_counts state t

pub step_counts : (state : State) (t : Token) (next : State) → step state t ≡ Some next → Counts state t next
unfolding step
step_counts state t next is = subst (λ (found : Option State). Stepped state t found) is (stepped state t state.wants)

pub openings_more : (tokens : List Token) (t : Token)
    → openings (tokens ++ t ∷ []) ≡ openings tokens + openings (t ∷ [])
openings_more tokens t = sum_by-append (λ token. cond (is_opening token) 1 0) tokens (t ∷ [])

pub openings_append : (tokens more : List Token) → openings (tokens ++ more) ≡ openings tokens + openings more
openings_append tokens more = sum_by-append (λ token. cond (is_opening token) 1 0) tokens more
