-- A plan that is read has no more patterns than its forms have brackets, and those are no more than the bytes of the
-- text.
use Rattle.std.proofs.Common.{◌≡◌, ℕ, ◌+◌, ◌≤◌, Bool, false, ◌||◌, List, [], ◌∷◌, ◌++◌, length, refl, ap, arith}
use Rattle.std.proofs.Common.{length-append}
use Rattle.pred_eval.specs.Tree.{Tree, Trees, Tagged}
use Rattle.pred_eval.specs.Tree as pred
use Rattle.pred_eval.specs.Truth.{searches, searches_of}
use Rattle.sexp_read.proofs.TokensFew.{tokens_few}
use Rattle.sexp_read.specs.Grammar.{IsForms, form_spelling, spelling, longest}
use Rattle.sexp_read.specs.Tokens.{Closed}
use Rattle.sexp_read.specs.Tree.{FormTree, FormTrees, Single, Group}
use Rattle.sexp_read.specs.Tree as tree
use Rattle.sexp_read.specs.Written.{BareTree, BareTrees, Leaf, Branch, no_trees, and_trees, bare_tree, bare_trees}
use Rattle.stream_plan.specs.Ready.{kind_patterns, stream_patterns, plan_patterns}
use Rattle.stream_plan.specs.Tree.{KindTree, StreamTree, StreamTrees, none, also}
use Rattle.config_terms.specs.Arguments.{Env}
use Rattle.config_terms.specs.Grammar.{worded, all_of, any_of, IsPredicate, always, never, never_nil, all_parts}
use Rattle.config_terms.specs.Grammar.{any_part, negated, equal, unequal, compared, like, holds, found, ArePredicates}
use Rattle.config_terms.specs.Grammar.{no_parts, more_parts}
use Rattle.config_terms.specs.Grammar as term
use Rattle.config_terms.specs.declared.word.StreamWord.{StreamWord}
use Rattle.config_terms.specs.declared.word.StreamWord.TheVariants as word
use Rattle.config_streams.specs.Sorts.{Sort, ValueOf, IsA}
use Rattle.config_streams.specs.Sorts as sort
use Rattle.config_streams.specs.Table.{Row, gives, takes, next_is, row_of, tag_rules, all_tagged, Matches, made, taken}
use Rattle.config_streams.specs.Table.{there, absent}
use Rattle.config_streams.specs.Streams.{is_by}
use Rattle.config_streams.specs.Grammar.{and_then, else_row, IsStream, index_word, index_name, ending, passing}
use Rattle.config_streams.specs.Grammar.{where_else, AreStreams, no_streams, more_streams, with_streams}
use Rattle.sexp_config.specs.declared.config.Config.{Config}
use Rattle.sexp_config.specs.Config.{IsConfigOf}
use Rattle.sexp_config.specs.Grammar.{Said, IsTop, a_server, an_expiry, some_streams, with_names, AreTops, no_tops}
use Rattle.sexp_config.specs.Grammar.{more_tops}

-- ---- brackets

abbrev mutual
  tree_brackets : BareTree → ℕ
  tree_brackets (Leaf atom) = 0
  tree_brackets (Branch bracket forms) = 1 + brackets forms

  brackets : BareTrees → ℕ
  brackets no_trees = 0
  brackets (and_trees form forms) = tree_brackets form + brackets forms

mutual
  form_spelled : (f : FormTree) → tree_brackets (bare_tree f) ≤ length (form_spelling f)
  form_spelled (Single a start last) = omega arith
  form_spelled (Group bracket forms start last) =
      omega (arith, spelled forms, length-append (spelling forms) (Closed bracket last ∷ []))

  spelled : (forms : FormTrees) → brackets (bare_trees forms) ≤ length (spelling forms)
  spelled tree.none = omega arith
  spelled (tree.also f forms) =
      omega (arith, form_spelled f, spelled forms, length-append (form_spelling f) (spelling forms))

few_brackets : (text : List ℕ) (forms : FormTrees) → IsForms text forms → brackets (bare_trees forms) ≤ longest
few_brackets text forms read = omega (arith, spelled forms, tokens_few text, ap length read.read.spelled, read.short)

brackets_add : (row others : BareTrees) → brackets (and_then row others) ≡ brackets row + brackets others
brackets_add no_trees others = omega arith
brackets_add (and_trees form row) others = omega (arith, brackets_add row others)

-- ---- rules

all_add : (one : Tree) (rules : Trees)
    → length (searches (all_of one rules)) ≡ length (searches one) + length (searches_of rules)
all_add one pred.none = omega arith
all_add one (pred.also second rules) = length-append (searches one) (searches_of (pred.also second rules))

any_add : (one : Tree) (rules : Trees)
    → length (searches (any_of one rules)) ≡ length (searches one) + length (searches_of rules)
any_add one pred.none = omega arith
any_add one (pred.also second rules) = length-append (searches one) (searches_of (pred.also second rules))

mutual
  rule_few : (env : Env) (form : BareTree) (one : Tree) → IsPredicate env form one
      → length (searches one) ≤ tree_brackets form
  rule_few env _ _ always = omega arith
  rule_few env _ _ never = omega arith
  rule_few env _ _ never_nil = omega arith
  rule_few env _ _ (all_parts {part = part} {parts = parts} {rule = one} {rules = rules} first others) =
      omega (arith, all_add one rules, rule_few env part one first, rules_few env parts rules others)
  rule_few env _ _ (any_part {part = part} {parts = parts} {rule = one} {rules = rules} first others) =
      omega (arith, any_add one rules, rule_few env part one first, rules_few env parts rules others)
  rule_few env _ _ (negated {part = part} {rule = one} is) = omega (arith, rule_few env part one is)
  rule_few env _ _ (term.tagged is) = omega arith
  rule_few env _ _ (equal tests is) = omega arith
  rule_few env _ _ (unequal tests is) = omega arith
  rule_few env _ _ (compared tests is) = omega arith
  rule_few env _ _ (like tests is) = omega arith
  rule_few env _ _ (holds tests is) = omega arith
  rule_few env _ _ (found tests is) = omega arith

  rules_few : (env : Env) (forms : BareTrees) (rules : Trees) → ArePredicates env forms rules
      → length (searches_of rules) ≤ brackets forms
  rules_few env _ _ no_parts = omega arith
  rules_few env _ _ (more_parts {part = part} {parts = parts} {rule = one} {rules = rules} first others) =
      omega (
        arith,
        rule_few env part one first,
        rules_few env parts rules others,
        length-append (searches one) (searches_of rules),
      )

tags_none : (tags : List (List ℕ)) → length (searches_of (tag_rules tags)) ≡ 0
tags_none [] = refl
tags_none (tag ∷ tags) = tags_none tags

all_tags_none : (tags : List (List ℕ)) → length (searches (all_tagged tags)) ≡ 0
all_tags_none [] = refl
all_tags_none (tag ∷ []) = refl
all_tags_none (tag ∷ second ∷ tags) = tags_none tags

-- ---- streams

-- how many expressions a value of a sort has
abbrev cost : (sort : Sort) → ValueOf sort → ℕ
cost sort.Rule rule = length (searches rule)
cost _ value = 0

cost_few : (sort : Sort) (env : Env) (x : BareTree) (value : ValueOf sort) → IsA sort env x value
    → cost sort value ≤ tree_brackets x
cost_few sort.Rule env x value is = rule_few env x value is
cost_few sort env x value is = omega arith

-- a kind has no more expressions than its arguments
abbrev Costs : Row → ℕ → Type 0
Costs (gives one) n = length (kind_patterns one) ≤ n
Costs (takes sort row) n = (value : ValueOf sort) → Costs (row value) (n + cost sort value)
Costs (next_is ahead row other) n = Costs row n × Costs other n

row_few : (env : Env) (row : Row) (forms : BareTrees) (one : KindTree) (rest : BareTrees)
    → Matches env row forms one rest → (n : ℕ) → Costs row n
    → length (kind_patterns one) + brackets rest ≤ n + brackets forms
row_few env _ _ one rest made n costs = omega (arith, costs)
row_few env _ _ one rest (taken {sort = sort} {row = row} {x = x} {forms = forms} value is matched) n costs =
    omega (
      arith,
      cost_few sort env x value is,
      row_few env (row value) forms one rest matched (n + cost sort value) (costs value),
    )
row_few env _ forms one rest (there {row = row} is matched) n costs = row_few env row forms one rest matched n costs.0
row_few env _ forms one rest (absent {other = other} is matched) n costs =
    row_few env other forms one rest matched n costs.1

rows_few : (in_fork : Bool) (from : StreamWord) → Costs (row_of in_fork from) 0
unfolding row_of
rows_few in_fork word.Index = omega arith
rows_few in_fork word.Sdo = omega arith
rows_few in_fork word.Where = λ rule. omega arith
rows_few in_fork word.With = (λ sets. omega arith, λ field set. omega arith)
rows_few in_fork word.Default = (λ sets. omega arith, λ field set. omega arith)
rows_few in_fork word.By = λ fields. (λ secs. omega arith, omega arith)
rows_few in_fork word.Changed = λ field. (λ held. omega arith, omega arith)
rows_few in_fork word.Coalesce = (λ secs. omega arith, omega arith)
rows_few in_fork word.Runs = λ a b. omega arith
rows_few in_fork word.Throttle = λ a b. omega arith
rows_few in_fork word.Rollup = λ a b. omega arith
rows_few in_fork word.Batch = λ a b. omega arith
rows_few in_fork word.Stable = λ a b. omega arith
rows_few in_fork word.Expired = omega arith
rows_few in_fork word.Tagged = λ tags. omega (arith, all_tags_none tags)
rows_few in_fork from = λ a. omega arith

kind_few : (in_fork : Bool) (env : Env) (from : StreamWord) (row : BareTrees) (one : KindTree) (rest : BareTrees)
    → Matches env (row_of in_fork from) row one rest → length (kind_patterns one) + brackets rest ≤ brackets row
kind_few in_fork env from row one rest matched =
    omega (arith, row_few env (row_of in_fork from) row one rest matched 0 (rows_few in_fork from))

joined_add : (streams others : StreamTrees)
    → length (plan_patterns (with_streams streams others))
    ≡ length (plan_patterns streams) + length (plan_patterns others)
unfolding stream_patterns plan_patterns
joined_add none others = omega arith
joined_add (also one streams) others =
    omega (
      arith,
      joined_add streams others,
      length-append (stream_patterns one) (plan_patterns (with_streams streams others)),
      length-append (stream_patterns one) (plan_patterns streams),
    )

mutual
  unfolding stream_patterns plan_patterns

  stream_few : (in_fork : Bool) (env : Env) (form : BareTree) (one : StreamTree) → IsStream in_fork env form one
      → length (stream_patterns one) ≤ tree_brackets form
  stream_few in_fork env _ _ (index_word is) = omega arith
  stream_few in_fork env _ _ (index_name is) = omega arith
  stream_few in_fork env _ _ (ending {row = row} {one = one} from matched ends) =
      omega (arith, length-append (kind_patterns one) [], kind_few in_fork env from row one no_trees matched)
  stream_few in_fork env _ _
      (passing {row = row} {forms = forms} {one = one} {children = children} from matched passes are) =
      omega (
        arith,
        length-append (kind_patterns one) (plan_patterns children ++ []),
        length-append (plan_patterns children) [],
        kind_few in_fork env from row one forms matched,
        streams_few (is_by from || in_fork) env forms children are,
      )
  stream_few in_fork env _ _
      (where_else {row = row} {forms = forms} {rest = rest} {one = one} {children = children} {otherwise = otherwise}
      matched passes are others) =
      omega (
        arith,
        length-append (kind_patterns one) (plan_patterns children ++ plan_patterns otherwise),
        length-append (plan_patterns children) (plan_patterns otherwise),
        kind_few in_fork env word.Where row one (and_then forms (else_row rest)) matched,
        streams_few in_fork env forms children are,
        streams_few in_fork env rest otherwise others,
        brackets_add forms (else_row rest),
      )

  streams_few : (in_fork : Bool) (env : Env) (forms : BareTrees) (streams : StreamTrees)
      → AreStreams in_fork env forms streams
      → length (plan_patterns streams) ≤ brackets forms
  streams_few in_fork env _ _ no_streams = omega arith
  streams_few in_fork env _ _ (more_streams {form = form} {forms = forms} {one = one} {streams = streams} is others) =
      omega (
        arith,
        stream_few in_fork env form one is,
        streams_few in_fork env forms streams others,
        length-append (stream_patterns one) (plan_patterns streams),
      )

-- ---- forms at the top

mutual
  unfolding stream_patterns plan_patterns

  top_few : (env : Env) (form : BareTree) (said : Said) → IsTop env form said
      → length (plan_patterns said.streams) ≤ tree_brackets form
  top_few env _ _ (a_server is) = omega arith
  top_few env _ _ (an_expiry is) = omega arith
  top_few env _ _ (some_streams {forms = forms} {streams = streams} are) =
      omega (arith, streams_few false env forms streams are)
  top_few env _ said (with_names {inner = inner} {forms = forms} known are) =
      omega (arith, tops_few inner forms said are)

  tops_few : (env : Env) (forms : BareTrees) (said : Said) → AreTops env forms said
      → length (plan_patterns said.streams) ≤ brackets forms
  tops_few env _ _ no_tops = omega arith
  tops_few env _ _ (more_tops {form = form} {forms = forms} {said = said} {more = more} is others) =
      omega (arith, top_few env form said is, tops_few env forms more others, joined_add said.streams more.streams)

pub patterns_few : (text : List ℕ) (config : Config) → IsConfigOf text config
    → length (plan_patterns config.plan) ≤ longest
patterns_few text config is =
    omega (arith, tops_few [] (bare_trees is.forms) _ is.holds.said, few_brackets text is.forms is.read)
