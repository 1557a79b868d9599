-- A rule as a plain tree, apart from where it lies in memory. Rules are compared by their trees.
use Rattle.std.specs.Prelude.{ℕ, ℤ, List, [], ◌∷◌}
use Rattle.ev_types.specs.declared.field.Field.{Field}
use Rattle.ev_types.specs.declared.value.Value.{Value}
use Rattle.pred_eval.specs.declared.rule.Ordering.{Ordering}
use Rattle.pred_eval.specs.declared.rule.Rule.{Rule, Row_of-Rule, end_of-Rule, more_of-Rule}
use Rattle.pred_eval.specs.declared.rule.Rule as code

mutual
  pub data Tree : Type 0 where
    Always : Tree
    Never : Tree
    Not : Tree → Tree
    All : Trees → Tree
    Any : Trees → Tree
    Tagged : List ℕ → Tree
    Equal : Field → Value → Tree
    Order : Field → Ordering → ℤ → Tree
    Wild : Field → List ℕ → Tree
    Search : Field → List ℕ → Tree

  pub data Trees : Type 0 where
    none : Trees
    also : Tree → Trees → Trees

abbrev mutual
  pub tree_of : Rule → Tree
  tree_of code.Always = Always
  tree_of code.Never = Never
  tree_of (code.Not' p rule) = Not (tree_of rule)
  tree_of (code.All' shape rules) = All (trees_of rules)
  tree_of (code.Any' shape rules) = Any (trees_of rules)
  tree_of (code.Tagged tag) = Tagged tag
  tree_of (code.Equal field value) = Equal field value
  tree_of (code.Order field order number) = Order field order number
  tree_of (code.Wild field pattern) = Wild field pattern
  tree_of (code.Search field pattern) = Search field pattern

  pub trees_of : {m : _} → Row_of-Rule m → Trees
  trees_of end_of-Rule = none
  trees_of (more_of-Rule rule rules) = also (tree_of rule) (trees_of rules)

-- the same of rules in a list
abbrev pub trees_in : List Rule → Trees
trees_in [] = none
trees_in (rule ∷ rules) = also (tree_of rule) (trees_in rules)
