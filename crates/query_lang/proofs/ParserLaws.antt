-- How the state of a parser and the grammar go together.
use Rattle.std.proofs.Common.{◌≡◌, ℕ, suc, ◌+◌, ◌-◌, ◌<◌, List, [], ◌∷◌, ◌++◌, Option, Some, None, pos, refl, ap, sym}
use Rattle.std.proofs.Common.{◌∙◌, subst, arith, append_assoc, add-one}
use Rattle.std.specs.Option.{option_map, option_and_then}
use Rattle.ev_types.specs.declared.field.Field.{Field}
use Rattle.ev_types.specs.declared.value.Value.TheVariants as value
use Rattle.pred_eval.specs.Tree.{Tree, Always, Never, Not, Tagged, Equal, Order, Wild, Search}
use Rattle.query_lang.specs.declared.parser.Wants.{Wants}
use Rattle.query_lang.specs.declared.parser.Wants.TheVariants as wants
use Rattle.query_lang.specs.declared.token.Operator.{Operator}
use Rattle.query_lang.specs.declared.token.Operator.TheVariants as operator
use Rattle.query_lang.specs.declared.token.Token.{Token}
use Rattle.query_lang.specs.declared.token.Token.TheVariants as token
use Rattle.ev_types.specs.Names.{named_field}
use Rattle.query_lang.specs.Grammar.{test_of, any_of, all_of, IsAny, IsAll, IsOne, one_alternative, more_alternatives}
use Rattle.query_lang.specs.Grammar.{one_part, more_parts, negated as negated_one, grouped, always, never, nothing}
use Rattle.query_lang.specs.Grammar.{tagged, test, IsQuery, IsQueryPrefix}
use Rattle.query_lang.specs.Parsing.{Group, State, empty_group, start, negated, with_part, tree_of_group, operand_step}
use Rattle.query_lang.specs.Parsing.{tag_step, operator_step, joint_step, step, finish}

pub negated_more : (n i : ℕ) (tree : Tree) → i < n → negated (n - i) tree ≡ negated (n - (i + 1)) (Not tree)
negated_more n i tree inside =
    let count : n - i ≡ suc (n - (i + 1)) = omega arith in
    ap (λ (k : ℕ). negated k tree) count

pub append_nil : {A : Type 0} (xs : List A) → xs ++ [] ≡ xs
append_nil [] = refl
append_nil (x ∷ xs) = ap (λ rest. x ∷ rest) (append_nil xs)

-- what the tokens from a state on represent, where they end a query
abbrev pub result_of : State → List Token → Option Tree
result_of state [] = finish state
result_of state (t ∷ tokens) = option_and_then (λ next. result_of next tokens) (step state t)

-- the state after tokens
abbrev pub reached : State → List Token → Option State
reached state [] = Some state
reached state (t ∷ tokens) = option_and_then (λ next. reached next tokens) (step state t)

abbrev state_at : List Group → Group → ℕ → Wants → State
state_at outer group count next = record { outer = outer; group = group; openings = count; wants = next }

-- What ends a query, said by the grammar for each state: first the parts and the alternatives that end the innermost
-- group, then those that end the groups around it.

abbrev MoreParts : List Token → List Tree → List Token → Type 0
MoreParts tokens [] rest = tokens ≡ rest
MoreParts tokens (tree ∷ trees) rest =
    (after : List Token) × (tokens ≡ token.And ∷ after) × IsAll after (tree ∷ trees) rest

abbrev MoreAlternatives : List Token → List Tree → List Token → Type 0
MoreAlternatives tokens [] rest = tokens ≡ rest
MoreAlternatives tokens (tree ∷ trees) rest =
    (after : List Token) × (tokens ≡ token.Or ∷ after) × IsAny after (tree ∷ trees) rest

record GroupEnds (group : Group) (tokens : List Token) (tree : Tree) (rest : List Token) : Type 0 where
  parts : List Tree
  middle : List Token
  alternatives : List Tree
  parts_are : MoreParts tokens parts middle
  alternatives_are : MoreAlternatives middle alternatives rest
  tree_is : tree ≡ any_of (group.alternatives ++ all_of (group.parts ++ parts) ∷ alternatives)

abbrev JointEnds : List Group → Group → List Token → Tree → Type 0
JointEnds [] group tokens tree = GroupEnds group tokens tree []
JointEnds (around ∷ outer) group tokens tree =
    (inner : Tree) × (rest : List Token) × GroupEnds group tokens inner (token.Close ∷ rest)
    × JointEnds outer (with_part inner around) rest tree

abbrev EndsAt : Wants → List Group → Group → List Token → Tree → Type 0
EndsAt wants.Operand outer group tokens tree =
    (one : Tree) × (rest : List Token) × IsOne tokens one rest × JointEnds outer (with_part one group) rest tree
EndsAt wants.Tag outer group tokens tree =
    (tag : List ℕ) × (rest : List Token) × (tokens ≡ token.Quoted tag ∷ rest)
    × JointEnds outer (with_part (Tagged tag) group) rest tree
EndsAt (wants.Operator field) outer group tokens tree =
    (operator : Operator) × (literal : Token) × (one : Tree) × (rest : List Token)
    × (tokens ≡ token.Operator operator ∷ literal ∷ rest) × (test_of field operator literal ≡ Some one)
    × JointEnds outer (with_part one group) rest tree
EndsAt (wants.Literal field operator) outer group tokens tree = (literal : Token) × (one : Tree) × (rest : List Token)
    × (tokens ≡ literal ∷ rest) × (test_of field operator literal ≡ Some one)
    × JointEnds outer (with_part one group) rest tree
EndsAt wants.Joint outer group tokens tree = JointEnds outer group tokens tree

-- no `not` waits where an operand is whole
abbrev Settled : Wants → ℕ → Type 0
Settled wants.Joint nots = nots ≡ 0
Settled wants.Operand nots = Unit {0}
Settled wants.Tag nots = Unit {0}
Settled (wants.Operator field) nots = Unit {0}
Settled (wants.Literal field operator) nots = Unit {0}

abbrev Sound : List Token → Type 0
Sound tokens = (outer : List Group) (group : Group) (count : ℕ) (next : Wants) (tree : Tree) → Settled next group.nots
    → result_of (state_at outer group count next) tokens ≡ Some tree → EndsAt next outer group tokens tree

all_parts : {tokens rest middle : List Token} {one : Tree} (parts : List Tree) → IsOne tokens one rest
    → MoreParts rest parts middle → IsAll tokens (one ∷ parts) middle
all_parts {tokens} {one = one} [] is same =
    subst (λ (rest : List Token). IsAll tokens (one ∷ []) rest) same (one_part is)
all_parts {tokens} {one = one} (tree ∷ trees) is (after, same, all) =
    more_parts (subst (λ (rest : List Token). IsOne tokens one rest) same is) all

any_alternatives : {tokens middle rest : List Token} {parts : List Tree} (trees : List Tree) → IsAll tokens parts middle
    → MoreAlternatives middle trees rest → IsAny tokens (all_of parts ∷ trees) rest
any_alternatives {tokens} {parts = parts} [] is same =
    subst (λ (rest : List Token). IsAny tokens (all_of parts ∷ []) rest) same (one_alternative is)
any_alternatives {tokens} {parts = parts} (tree ∷ trees) is (after, same, any) =
    more_alternatives (subst (λ (rest : List Token). IsAll tokens parts rest) same is) any

-- a group whose first part is at hand
group_any : (tokens rest last : List Token) (one inner : Tree) → IsOne tokens one rest
    → GroupEnds (with_part one empty_group) rest inner last
    → (trees : List Tree) × IsAny tokens trees last × (inner ≡ any_of trees)
group_any tokens rest last one inner is ends = (
  all_of (one ∷ ends.parts) ∷ ends.alternatives,
  any_alternatives ends.alternatives (all_parts ends.parts is ends.parts_are) ends.alternatives_are,
  ends.tree_is,
)

denied_part : (one : Tree) (alternatives parts : List Tree) (nots : ℕ)
    → with_part one (record { alternatives = alternatives; parts = parts; nots = nots + 1 })
    ≡ with_part (Not one) (record { alternatives = alternatives; parts = parts; nots = nots })
denied_part one alternatives parts nots =
    ap (λ (n : ℕ). with_part one (record { alternatives = alternatives; parts = parts; nots = n })) (add-one nots)

-- the groups around are ended alike
joint_map : (outer : List Group) (group other : Group) (tokens others : List Token) (tree : Tree)
    → ((inner : Tree) (rest : List Token) → GroupEnds group tokens inner rest → GroupEnds other others inner rest)
    → JointEnds outer group tokens tree → JointEnds outer other others tree
joint_map [] group other tokens others tree map ends = map tree [] ends
joint_map (around ∷ outer) group other tokens others tree map (inner, rest, ends, joint) =
    (inner, rest, map inner (token.Close ∷ rest) ends, joint)

group_and : (alternatives parts : List Tree) (tokens rest : List Token) (one inner : Tree) (last : List Token)
    → IsOne tokens one rest
    → GroupEnds (with_part one (record { alternatives = alternatives; parts = parts; nots = 0 })) rest inner last
    → GroupEnds (record { alternatives = alternatives; parts = parts; nots = 0 }) (token.And ∷ tokens) inner last
group_and alternatives parts tokens rest one inner last is ends = record {
  parts = one ∷ ends.parts;
  middle = ends.middle;
  alternatives = ends.alternatives;
  parts_are = (tokens, refl, all_parts ends.parts is ends.parts_are);
  alternatives_are = ends.alternatives_are;
  tree_is =
      ends.tree_is
      ∙ ap (λ (all : List Tree). any_of (alternatives ++ all_of all ∷ ends.alternatives))
      (append_assoc parts (one ∷ []) ends.parts);
}

group_or : (alternatives parts : List Tree) (tokens rest : List Token) (one inner : Tree) (last : List Token)
    → IsOne tokens one rest
    → GroupEnds (with_part one (record { alternatives = alternatives ++ all_of parts ∷ []; parts = []; nots = 0 })) rest
    inner last
    → GroupEnds (record { alternatives = alternatives; parts = parts; nots = 0 }) (token.Or ∷ tokens) inner last
group_or alternatives parts tokens rest one inner last is ends = record {
  parts = [];
  middle = token.Or ∷ tokens;
  alternatives = all_of (one ∷ ends.parts) ∷ ends.alternatives;
  parts_are = refl;
  alternatives_are =
      (tokens, refl, any_alternatives ends.alternatives (all_parts ends.parts is ends.parts_are) ends.alternatives_are);
  tree_is =
      ends.tree_is
      ∙ ap any_of (append_assoc alternatives (all_of parts ∷ []) (all_of (one ∷ ends.parts) ∷ ends.alternatives))
      ∙ ap (λ (all : List Tree). any_of (alternatives ++ all_of all ∷ (all_of (one ∷ ends.parts) ∷ ends.alternatives)))
      (sym (append_nil parts));
}

group_close : (group : Group) (tokens : List Token) → GroupEnds group tokens (tree_of_group group) tokens
group_close group tokens = record {
  parts = [];
  middle = tokens;
  alternatives = [];
  parts_are = refl;
  alternatives_are = refl;
  tree_is = ap (λ (all : List Tree). any_of (group.alternatives ++ all_of all ∷ [])) (sym (append_nil group.parts));
}

sound_name : (tokens : List Token) → Sound tokens → (name : List ℕ) (found : Option Field) → named_field name ≡ found
    → (outer : List Group) (group : Group) (count : ℕ) (tree : Tree)
    → option_and_then (λ next. result_of next tokens)
    (option_map (λ field. state_at outer group count (wants.Operator field)) found)
    ≡ Some tree
    → EndsAt wants.Operand outer group (token.Name name ∷ tokens) tree
sound_name tokens after name None is outer group count tree e = cc
sound_name tokens after name (Some field) is outer group count tree e =
    let (operator, literal, one, rest, same, tested, joint) =
    after outer group count (wants.Operator field) tree tt e in (
      one,
      rest,
      subst (λ (others : List Token). IsOne (token.Name name ∷ others) one rest) (sym same) (test is tested),
      joint,
    )

sound_operand : (tokens : List Token) → Sound tokens
    → (t : Token) (outer : List Group) (group : Group) (count : ℕ) (tree : Tree)
    → option_and_then (λ next. result_of next tokens) (operand_step (state_at outer group count wants.Operand) t)
    ≡ Some tree
    → EndsAt wants.Operand outer group (t ∷ tokens) tree
sound_operand tokens after token.Open outer group count tree e =
    let (one, rest, is, (inner, following, ends, joint)) =
    after (group ∷ outer) empty_group (count + 1) wants.Operand tree tt e in
    let (trees, any, same) = group_any tokens rest (token.Close ∷ following) one inner is ends in (
      inner,
      following,
      subst (λ (tree : Tree). IsOne (token.Open ∷ tokens) tree following) (sym same) (grouped any),
      joint,
    )
sound_operand tokens after token.Not outer group count tree e =
    let (one, rest, is, joint) =
    after outer (record { alternatives = group.alternatives; parts = group.parts; nots = group.nots + 1 }) (count + 1)
    wants.Operand tree tt e in (
      Not one,
      rest,
      negated_one is,
      subst (λ (group : Group). JointEnds outer group rest tree)
          (denied_part one group.alternatives group.parts group.nots) joint,
    )
sound_operand tokens after token.True outer group count tree e =
    (Always, tokens, always, after outer (with_part Always group) count wants.Joint tree refl e)
sound_operand tokens after token.False outer group count tree e =
    (Never, tokens, never, after outer (with_part Never group) count wants.Joint tree refl e)
sound_operand tokens after token.Nil outer group count tree e =
    (Never, tokens, nothing, after outer (with_part Never group) count wants.Joint tree refl e)
sound_operand tokens after token.Tagged outer group count tree e =
    let (tag, rest, same, joint) = after outer group count wants.Tag tree tt e in (
      Tagged tag,
      rest,
      subst (λ (others : List Token). IsOne (token.Tagged ∷ others) (Tagged tag) rest) (sym same) tagged,
      joint,
    )
sound_operand tokens after (token.Name name) outer group count tree e =
    sound_name tokens after name (named_field name) refl outer group count tree e
sound_operand tokens after token.Close outer group count tree e = cc
sound_operand tokens after token.And outer group count tree e = cc
sound_operand tokens after token.Or outer group count tree e = cc
sound_operand tokens after (token.Operator operator) outer group count tree e = cc
sound_operand tokens after (token.Number number) outer group count tree e = cc
sound_operand tokens after (token.Quoted text) outer group count tree e = cc

sound_joint : (tokens : List Token) → Sound tokens
    → (t : Token) (outer : List Group) (alternatives parts : List Tree) (count : ℕ) (tree : Tree)
    → let group : Group = record { alternatives = alternatives; parts = parts; nots = 0 } in
    option_and_then (λ next. result_of next tokens) (joint_step (state_at outer group count wants.Joint) t) ≡ Some tree
    → JointEnds outer group (t ∷ tokens) tree
sound_joint tokens after token.And outer alternatives parts count tree e =
    let group : Group = record { alternatives = alternatives; parts = parts; nots = 0 } in
    let (one, rest, is, joint) = after outer group count wants.Operand tree tt e in
    joint_map outer (with_part one group) group rest (token.And ∷ tokens) tree
    (λ inner last ends. group_and alternatives parts tokens rest one inner last is ends) joint
sound_joint tokens after token.Or outer alternatives parts count tree e =
    let group : Group = record { alternatives = alternatives; parts = parts; nots = 0 } in
    let next : Group = record { alternatives = alternatives ++ all_of parts ∷ []; parts = []; nots = 0 } in
    let (one, rest, is, joint) = after outer next count wants.Operand tree tt e in
    joint_map outer (with_part one next) group rest (token.Or ∷ tokens) tree
    (λ inner last ends. group_or alternatives parts tokens rest one inner last is ends) joint
sound_joint tokens after token.Close [] alternatives parts count tree e = cc
sound_joint tokens after token.Close (around ∷ outer) alternatives parts count tree e =
    let group : Group = record { alternatives = alternatives; parts = parts; nots = 0 } in (
      tree_of_group group,
      tokens,
      group_close group (token.Close ∷ tokens),
      after outer (with_part (tree_of_group group) around) count wants.Joint tree refl e,
    )
sound_joint tokens after token.Open outer alternatives parts count tree e = cc
sound_joint tokens after token.Not outer alternatives parts count tree e = cc
sound_joint tokens after token.True outer alternatives parts count tree e = cc
sound_joint tokens after token.False outer alternatives parts count tree e = cc
sound_joint tokens after token.Nil outer alternatives parts count tree e = cc
sound_joint tokens after token.Tagged outer alternatives parts count tree e = cc
sound_joint tokens after (token.Operator operator) outer alternatives parts count tree e = cc
sound_joint tokens after (token.Name name) outer alternatives parts count tree e = cc
sound_joint tokens after (token.Number number) outer alternatives parts count tree e = cc
sound_joint tokens after (token.Quoted text) outer alternatives parts count tree e = cc

sound_tag : (tokens : List Token) → Sound tokens
    → (t : Token) (outer : List Group) (group : Group) (count : ℕ) (tree : Tree)
    → option_and_then (λ next. result_of next tokens) (tag_step (state_at outer group count wants.Tag) t) ≡ Some tree
    → EndsAt wants.Tag outer group (t ∷ tokens) tree
sound_tag tokens after (token.Quoted tag) outer group count tree e =
    (tag, tokens, refl, after outer (with_part (Tagged tag) group) count wants.Joint tree refl e)
sound_tag tokens after t outer group count tree e = cc

sound_operator : (tokens : List Token) → Sound tokens
    → (field : Field) (t : Token) (outer : List Group) (group : Group) (count : ℕ) (tree : Tree)
    → option_and_then (λ next. result_of next tokens)
    (operator_step field (state_at outer group count (wants.Operator field)) t)
    ≡ Some tree
    → EndsAt (wants.Operator field) outer group (t ∷ tokens) tree
sound_operator tokens after field (token.Operator operator) outer group count tree e =
    let (literal, one, rest, same, tested, joint) = after outer group count (wants.Literal field operator) tree tt e in
    (operator, literal, one, rest, ap (λ (others : List Token). token.Operator operator ∷ others) same, tested, joint)
sound_operator tokens after field t outer group count tree e = cc

sound_literal : (tokens : List Token) → Sound tokens
    → (field : Field) (operator : Operator) (t : Token) (found : Option Tree) → test_of field operator t ≡ found
    → (outer : List Group) (group : Group) (count : ℕ) (tree : Tree)
    → option_and_then (λ next. result_of next tokens)
    (option_map (λ one. state_at outer (with_part one group) count wants.Joint) found)
    ≡ Some tree
    → EndsAt (wants.Literal field operator) outer group (t ∷ tokens) tree
sound_literal tokens after field operator t None is outer group count tree e = cc
sound_literal tokens after field operator t (Some one) is outer group count tree e =
    (t, one, tokens, refl, is, after outer (with_part one group) count wants.Joint tree refl e)

sound_step : (tokens : List Token) → Sound tokens → (t : Token) → Sound (t ∷ tokens)
unfolding step
sound_step tokens after t outer group count wants.Operand tree settled e =
    sound_operand tokens after t outer group count tree e
sound_step tokens after t outer group count wants.Tag tree settled e = sound_tag tokens after t outer group count tree e
sound_step tokens after t outer group count (wants.Operator field) tree settled e =
    sound_operator tokens after field t outer group count tree e
sound_step tokens after t outer group count (wants.Literal field operator) tree settled e =
    sound_literal tokens after field operator t (test_of field operator t) refl outer group count tree e
sound_step tokens after t outer group count wants.Joint tree settled e =
    let Claim : ℕ → Type 0 =
    λ n. result_of
    (state_at outer (record { alternatives = group.alternatives; parts = group.parts; nots = n }) count wants.Joint)
    (t ∷ tokens)
    ≡ Some tree
    → JointEnds outer (record { alternatives = group.alternatives; parts = group.parts; nots = n }) (t ∷ tokens) tree in
    subst Claim (sym settled) (sound_joint tokens after t outer group.alternatives group.parts count tree) e

sound_end : Sound []
unfolding finish
sound_end outer group count wants.Operand tree settled e = cc
sound_end outer group count wants.Tag tree settled e = cc
sound_end outer group count (wants.Operator field) tree settled e = cc
sound_end outer group count (wants.Literal field operator) tree settled e = cc
sound_end [] group count wants.Joint tree settled e =
    let same : tree_of_group group ≡ tree = cc in
    subst (λ (tree : Tree). GroupEnds group [] tree []) same (group_close group [])
sound_end (around ∷ outer) group count wants.Joint tree settled e = cc

sound : (tokens : List Token) → Sound tokens
sound [] = sound_end
sound (t ∷ tokens) = sound_step tokens (sound tokens) t

-- what a parser accepts is a query
pub parsed_is_query : (tokens : List Token) (tree : Tree) → result_of start tokens ≡ Some tree → IsQuery tokens tree
parsed_is_query tokens tree e =
    let (one, rest, is, ends) = sound tokens [] empty_group 0 wants.Operand tree tt e in
    group_any tokens rest [] one tree is ends

-- A query is what a parser accepts: each part of it takes the parser from where an operand is wanted to where it is
-- whole.

RunsTo : State → List Token → State → List Token → Type 0
RunsTo from tokens to rest = result_of from tokens ≡ result_of to rest

run_name : (name : List ℕ) (field : Field) (outer : List Group) (group : Group) (count : ℕ) (tokens : List Token)
    → named_field name ≡ Some field
    → RunsTo (state_at outer group count wants.Operand) (token.Name name ∷ tokens)
    (state_at outer group count (wants.Operator field)) tokens
unfolding RunsTo step
run_name name field outer group count tokens is = rw is refl

run_literal : (field : Field) (operator : Operator) (literal : Token) (one : Tree) (outer : List Group) (group : Group)
    (count : ℕ) (tokens : List Token)
    → test_of field operator literal ≡ Some one
    → RunsTo (state_at outer group count (wants.Operator field)) (token.Operator operator ∷ literal ∷ tokens)
    (state_at outer (with_part one group) count wants.Joint) tokens
unfolding RunsTo step
run_literal field operator literal one outer group count tokens is =
    ap
    (λ (found : Option Tree). option_and_then (λ next. result_of next tokens)
    (option_map (λ one. state_at outer (with_part one group) count wants.Joint) found))
    is

record AnyRuns (outer : List Group) (alternatives : List Tree) (count : ℕ) (tokens : List Token) (trees : List Tree)
    (rest : List Token) : Type 0 where
  before : List Tree
  parts : List Tree
  counted : ℕ
  runs : RunsTo (state_at outer (record { alternatives = alternatives; parts = []; nots = 0 }) count wants.Operand)
      tokens
      (state_at outer (record { alternatives = before; parts = parts; nots = 0 }) counted wants.Joint) rest
  trees_are : before ++ all_of parts ∷ [] ≡ alternatives ++ trees

mutual
  unfolding RunsTo step

  any_runs : {tokens rest : List Token} {trees : List Tree} → IsAny tokens trees rest
      → (outer : List Group) (alternatives : List Tree) (count : ℕ) → AnyRuns outer alternatives count tokens trees rest
  any_runs (one_alternative {parts = parts} all) outer alternatives count =
      let (counted, runs) = all_runs all outer alternatives [] count in
      record { before = alternatives; parts = parts; counted = counted; runs = runs; trees_are = refl }
  any_runs (more_alternatives {parts = parts} {trees = trees} all any) outer alternatives count =
      let (counted, runs) = all_runs all outer alternatives [] count in
      let after = any_runs any outer (alternatives ++ all_of parts ∷ []) counted in
      record {
        before = after.before;
        parts = after.parts;
        counted = after.counted;
        runs = runs ∙ after.runs;
        trees_are = after.trees_are ∙ append_assoc alternatives (all_of parts ∷ []) trees;
      }

  all_runs : {tokens rest : List Token} {trees : List Tree} → IsAll tokens trees rest
      → (outer : List Group) (alternatives parts : List Tree) (count : ℕ)
      → (counted : ℕ)
      × RunsTo (state_at outer (record { alternatives = alternatives; parts = parts; nots = 0 }) count wants.Operand)
      tokens
      (state_at outer (record { alternatives = alternatives; parts = parts ++ trees; nots = 0 }) counted wants.Joint)
      rest
  all_runs (one_part one) outer alternatives parts count =
      one_runs one outer (record { alternatives = alternatives; parts = parts; nots = 0 }) count
  all_runs {rest = rest} (more_parts {after = after} {tree = tree} {trees = trees} one all) outer alternatives parts
      count =
      let (counted, runs) =
      one_runs one outer (record { alternatives = alternatives; parts = parts; nots = 0 }) count in
      let (total, more) = all_runs all outer alternatives (parts ++ tree ∷ []) counted in (
        total,
        runs ∙ more
            ∙ ap
            (λ (all : List Tree). result_of
            (state_at outer (record { alternatives = alternatives; parts = all; nots = 0 }) total wants.Joint) rest)
            (append_assoc parts (tree ∷ []) trees),
      )

  one_runs : {tokens rest : List Token} {tree : Tree} → IsOne tokens tree rest
      → (outer : List Group) (group : Group) (count : ℕ)
      → (counted : ℕ)
      × RunsTo (state_at outer group count wants.Operand) tokens
      (state_at outer (with_part tree group) counted wants.Joint) rest
  one_runs {rest = rest} (negated_one {tree = tree} one) outer group count =
      let (counted, runs) =
      one_runs one outer (record { alternatives = group.alternatives; parts = group.parts; nots = group.nots + 1 })
      (count + 1) in (
        counted,
        runs
            ∙ ap (λ (group : Group). result_of (state_at outer group counted wants.Joint) rest)
            (denied_part tree group.alternatives group.parts group.nots),
      )
  one_runs {rest = rest} (grouped any) outer group count =
      let inner = any_runs any (group ∷ outer) [] (count + 1) in (
        inner.counted,
        inner.runs
            ∙ ap
            (λ (trees : List Tree).
            result_of (state_at outer (with_part (any_of trees) group) inner.counted wants.Joint) rest)
            inner.trees_are,
      )
  one_runs always outer group count = (count, refl)
  one_runs never outer group count = (count, refl)
  one_runs nothing outer group count = (count, refl)
  one_runs tagged outer group count = (count, refl)
  one_runs
      (test {name = name} {field = field} {operator = operator} {literal = literal} {tree = tree} {rest = rest} is
      tested)
      outer group count = (
        count,
        run_name name field outer group count (token.Operator operator ∷ literal ∷ rest) is
            ∙ run_literal field operator literal tree outer group count rest tested,
      )

pub query_is_parsed : (tokens : List Token) (tree : Tree) → IsQuery tokens tree → result_of start tokens ≡ Some tree
unfolding RunsTo finish
query_is_parsed tokens tree (trees, any, same) =
    let runs = any_runs any [] [] 0 in
    runs.runs ∙ ap (λ (all : List Tree). Some (any_of all)) runs.trees_are ∙ ap (λ (tree : Tree). Some tree) (sym same)

pub one_tree : (tokens : List Token) (tree other : Tree) → IsQuery tokens tree → IsQuery tokens other → tree ≡ other
one_tree tokens tree other is also_is =
    let first = query_is_parsed tokens tree is in
    let second = query_is_parsed tokens other also_is in
    cc

-- From each state a query can be ended.

abbrev Viable : State → Type 0
Viable state = (more : List Token) × (tree : Tree) × (result_of state more ≡ Some tree)

joint_viable : (outer : List Group) (group : Group) (count : ℕ) → Viable (state_at outer group count wants.Joint)
unfolding step finish
joint_viable [] group count = ([], tree_of_group group, refl)
joint_viable (around ∷ outer) group count =
    let (more, tree, e) = joint_viable outer (with_part (tree_of_group group) around) count in
    (token.Close ∷ more, tree, e)

literal_viable : (field : Field) (operator : Operator) (outer : List Group) (group : Group) (count : ℕ)
    → Viable (state_at outer group count (wants.Literal field operator))
unfolding step
literal_viable field operator.Equal outer group count =
    let (more, tree, e) = joint_viable outer (with_part (Equal field value.Nil) group) count in
    (token.Nil ∷ more, tree, e)
literal_viable field operator.Unequal outer group count =
    let (more, tree, e) = joint_viable outer (with_part (Not (Equal field value.Nil)) group) count in
    (token.Nil ∷ more, tree, e)
literal_viable field (operator.Order order) outer group count =
    let (more, tree, e) = joint_viable outer (with_part (Order field order (pos 0)) group) count in
    (token.Number (pos 0) ∷ more, tree, e)
literal_viable field operator.Wild outer group count =
    let (more, tree, e) = joint_viable outer (with_part (Wild field []) group) count in
    (token.Quoted [] ∷ more, tree, e)
literal_viable field operator.Search outer group count =
    let (more, tree, e) = joint_viable outer (with_part (Search field []) group) count in
    (token.Quoted [] ∷ more, tree, e)

state_viable : (outer : List Group) (group : Group) (count : ℕ) (next : Wants)
    → Viable (state_at outer group count next)
unfolding step
state_viable outer group count wants.Operand =
    let (more, tree, e) = joint_viable outer (with_part Always group) count in (token.True ∷ more, tree, e)
state_viable outer group count wants.Tag =
    let (more, tree, e) = joint_viable outer (with_part (Tagged []) group) count in (token.Quoted [] ∷ more, tree, e)
state_viable outer group count (wants.Operator field) =
    let (more, tree, e) = literal_viable field operator.Equal outer group count in
    (token.Operator operator.Equal ∷ more, tree, e)
state_viable outer group count (wants.Literal field operator) = literal_viable field operator outer group count
state_viable outer group count wants.Joint = joint_viable outer group count

viable : (state : State) → Viable state
viable state = state_viable state.outer state.group state.openings state.wants

-- tokens that were taken, and others after them

result_after_step : (tokens more : List Token) (found : Option State)
    → ((state : State)
    → result_of state (tokens ++ more) ≡ option_and_then (λ next. result_of next more) (reached state tokens))
    → option_and_then (λ next. result_of next (tokens ++ more)) found
    ≡ option_and_then (λ next. result_of next more) (option_and_then (λ next. reached next tokens) found)
result_after_step tokens more None after = refl
result_after_step tokens more (Some state) after = after state

result_after : (state : State) (tokens more : List Token)
    → result_of state (tokens ++ more) ≡ option_and_then (λ next. result_of next more) (reached state tokens)
result_after state [] more = refl
result_after state (t ∷ tokens) more =
    result_after_step tokens more (step state t) (λ next. result_after next tokens more)

reached_more_step : (tokens : List Token) (t : Token) (found : Option State)
    → ((state : State)
    → reached state (tokens ++ t ∷ []) ≡ option_and_then (λ next. step next t) (reached state tokens))
    → option_and_then (λ next. reached next (tokens ++ t ∷ [])) found
    ≡ option_and_then (λ next. step next t) (option_and_then (λ next. reached next tokens) found)
reached_more_step tokens t None after = refl
reached_more_step tokens t (Some state) after = after state

some_itself : (found : Option State) → option_and_then (λ next. Some next) found ≡ found
some_itself None = refl
some_itself (Some state) = refl

pub reached_more : (state : State) (tokens : List Token) (t : Token)
    → reached state (tokens ++ t ∷ []) ≡ option_and_then (λ next. step next t) (reached state tokens)
reached_more state [] t = some_itself (step state t)
reached_more state (first ∷ tokens) t =
    reached_more_step tokens t (step state first) (λ next. reached_more next tokens t)

-- what a parser takes is the front of a query, and nothing else is

pub taken_is_front : (tokens : List Token) (state : State) → reached start tokens ≡ Some state → IsQueryPrefix tokens
taken_is_front tokens state is =
    let (more, tree, e) = viable state in (
      more,
      tree,
      parsed_is_query (tokens ++ more) tree
          (result_after start tokens more
          ∙ ap (λ (found : Option State). option_and_then (λ next. result_of next more) found) is ∙ e),
    )

pub refused_is_none : (tokens : List Token) → reached start tokens ≡ None → IsQueryPrefix tokens → ⊥
refused_is_none tokens is (more, tree, query) =
    let parsed = query_is_parsed (tokens ++ more) tree query in
    let after = result_after start tokens more in
    let none : option_and_then (λ next. result_of next more) (reached start tokens) ≡ None =
    ap (λ (found : Option State). option_and_then (λ next. result_of next more) found) is in
    cc

pub ended : (tokens : List Token) (state : State) → reached start tokens ≡ Some state
    → result_of start tokens ≡ finish state
ended tokens state is =
    let after = result_after start tokens [] in
    ap (λ (others : List Token). result_of start others) (sym (append_nil tokens)) ∙ after
    ∙ ap (λ (found : Option State). option_and_then (λ next. result_of next []) found) is

pub unended : (tokens : List Token) (state : State) → reached start tokens ≡ Some state → finish state ≡ None
    → (tree : Tree) → IsQuery tokens tree → ⊥
unended tokens state is none tree query =
    let parsed = query_is_parsed tokens tree query in
    let end = ended tokens state is in
    cc
