-- How a parser takes token by token: what it holds of the query so far, and what it wants next.
use Rattle.std.specs.Prelude.{◌≡◌, ℕ, zero, suc, ◌+◌, nat_lt, if◌then◌else◌, List, [], ◌∷◌, ◌++◌, map, reverse, Option}
use Rattle.std.specs.Prelude.{Some, None, Result, Ok, Err}
use Rattle.std.specs.Option.{option_map}
use Rattle.ev_types.specs.declared.field.Field.{Field}
use Rattle.ev_types.specs.Names.{named_field}
use Rattle.pred_eval.specs.declared.rule.Rule.{Rule}
use Rattle.pred_eval.specs.Tree.{Tree, Always, Never, Not, Tagged, tree_of}
use Rattle.query_lang.specs.declared.parser.TheConstants.{MAX_OPENINGS}
use Rattle.query_lang.specs.declared.fault.QueryFault.{QueryFault}
use Rattle.query_lang.specs.declared.fault.QueryFault.TheVariants.{Refused, TooDeep, Memory}
use Rattle.query_lang.specs.declared.parser.Group as code_group
use Rattle.query_lang.specs.declared.parser.Parser as code_parser
use Rattle.query_lang.specs.declared.parser.Wants.{Wants}
use Rattle.query_lang.specs.declared.parser.Wants.TheVariants as wants
use Rattle.query_lang.specs.declared.token.Operator.{Operator}
use Rattle.query_lang.specs.declared.token.Token.{Token}
use Rattle.query_lang.specs.declared.token.Token.TheVariants as token
use Rattle.query_lang.specs.Grammar.{test_of, any_of, all_of}

-- the part of a query between a parenthesis and its partner, or of the whole query, as far as it was read: the
-- alternatives before the last `or`, the parts after it, and how many `not` come before the next part
pub record Group : Type 0 where
  pub alternatives : List Tree
  pub parts : List Tree
  pub nots : ℕ

-- the groups around the innermost one, the nearest first, how many tokens were `(` or `not`, and what is wanted next
pub record State : Type 0 where
  pub outer : List Group
  pub group : Group
  pub openings : ℕ
  pub wants : Wants

abbrev pub empty_group : Group
empty_group = record { alternatives = []; parts = []; nots = 0 }

abbrev pub start : State
start = record { outer = []; group = empty_group; openings = 0; wants = wants.Operand }

-- what a parser of the code holds
abbrev pub group_of : code_group.Group → Group
group_of group = record {
  alternatives = map tree_of group.alternatives.items;
  parts = map tree_of group.parts.items;
  nots = group.nots;
}

abbrev pub state_of : code_parser.Parser → State
state_of parser = record {
  outer = map group_of (reverse parser.outer.items);
  group = group_of parser.group;
  openings = parser.openings;
  wants = parser.wants;
}

abbrev pub negated : ℕ → Tree → Tree
negated zero tree = tree
negated (suc n) tree = negated n (Not tree)

-- one part more
abbrev pub with_part : Tree → Group → Group
with_part tree group =
    record { alternatives = group.alternatives; parts = group.parts ++ negated group.nots tree ∷ []; nots = 0 }

-- the tree of a whole group
abbrev pub tree_of_group : Group → Tree
tree_of_group group = any_of (group.alternatives ++ all_of group.parts ∷ [])

abbrev pub wanting : Wants → State → State
wanting next state = record { outer = state.outer; group = state.group; openings = state.openings; wants = next }

abbrev pub joined : Tree → State → State
joined tree state =
    record { outer = state.outer; group = with_part tree state.group; openings = state.openings; wants = wants.Joint }

abbrev pub opened : State → State
opened state = record {
  outer = state.group ∷ state.outer;
  group = empty_group;
  openings = state.openings + 1;
  wants = wants.Operand;
}

abbrev pub denied : State → State
denied state = record {
  outer = state.outer;
  group = record { alternatives = state.group.alternatives; parts = state.group.parts; nots = state.group.nots + 1 };
  openings = state.openings + 1;
  wants = wants.Operand;
}

abbrev pub next_alternative : State → State
next_alternative state = record {
  outer = state.outer;
  group =
      record {
        alternatives = state.group.alternatives ++ all_of state.group.parts ∷ [];
        parts = [];
        nots = state.group.nots;
      };
  openings = state.openings;
  wants = wants.Operand;
}

abbrev pub closed : List Group → State → Option State
closed [] state = None
closed (group ∷ outer) state =
    Some (record {
      outer = outer;
      group = with_part (tree_of_group state.group) group;
      openings = state.openings;
      wants = wants.Joint;
    })

-- an operand is wanted
abbrev pub operand_step : State → Token → Option State
operand_step state token.Open = Some (opened state)
operand_step state token.Not = Some (denied state)
operand_step state token.True = Some (joined Always state)
operand_step state token.False = Some (joined Never state)
operand_step state token.Nil = Some (joined Never state)
operand_step state token.Tagged = Some (wanting wants.Tag state)
operand_step state (token.Name name) = option_map (λ field. wanting (wants.Operator field) state) (named_field name)
operand_step state t = None

abbrev pub tag_step : State → Token → Option State
tag_step state (token.Quoted tag) = Some (joined (Tagged tag) state)
tag_step state t = None

abbrev pub operator_step : Field → State → Token → Option State
operator_step field state (token.Operator operator) = Some (wanting (wants.Literal field operator) state)
operator_step field state t = None

abbrev pub literal_step : Field → Operator → State → Token → Option State
literal_step field operator state t = option_map (λ tree. joined tree state) (test_of field operator t)

-- an operand is whole
abbrev pub joint_step : State → Token → Option State
joint_step state token.And = Some (wanting wants.Operand state)
joint_step state token.Or = Some (next_alternative state)
joint_step state token.Close = closed state.outer state
joint_step state t = None

abbrev pub step_at : Wants → State → Token → Option State
step_at wants.Operand = operand_step
step_at wants.Tag = tag_step
step_at (wants.Operator field) = operator_step field
step_at (wants.Literal field operator) = literal_step field operator
step_at wants.Joint = joint_step

-- the state after the token, where it may come
unfoldable pub step : State → Token → Option State
step state t = step_at state.wants state t

-- the tree of the tokens so far, where they are a whole query
abbrev pub finished : Wants → List Group → Group → Option Tree
finished wants.Joint [] group = Some (tree_of_group group)
finished next outer group = None

unfoldable pub finish : State → Option Tree
finish state = finished state.wants state.outer state.group

-- a token at a place may not come, or is one too many of its kind
abbrev pub within_limit : ℕ → Option State → Result State QueryFault
within_limit place None = Err (Refused place)
within_limit place (Some state) = if nat_lt MAX_OPENINGS state.openings then Err (TooDeep place) else Ok state

-- what a call answers, and the state that it leaves
abbrev pub Leaves : {X : Type 0} → Result X QueryFault → State → Result State QueryFault → Type 0
Leaves (Ok x) state wanted = wanted ≡ Ok state
Leaves (Err Memory) state wanted = Unit {0}
Leaves (Err (Refused place)) state wanted = wanted ≡ Err (Refused place)
Leaves (Err (TooDeep place)) state wanted = wanted ≡ Err (TooDeep place)
Leaves (Err fault) state wanted = ⊥

-- how a parse ends: the rule, or a refusal at the end of the text
abbrev pub Ends : Result Rule QueryFault → ℕ → Option Tree → Type 0
Ends (Ok rule) size wanted = wanted ≡ Some (tree_of rule)
Ends (Err Memory) size wanted = Unit {0}
Ends (Err (Refused place)) size wanted = (place ≡ size) × (wanted ≡ None)
Ends (Err fault) size wanted = ⊥
