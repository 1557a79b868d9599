-- A tree as a list of marks, in the order of the tree, by which a proof tells trees apart.
use Rattle.std.proofs.Common.{◌≡◌, ℕ, ℤ, List, [], ◌∷◌, refl, ap, ◌∙◌}
use Rattle.std.specs.Coded.{Coded, code_by, coded_list}
use Rattle.ev_types.specs.declared.field.Field.{Field}
use Rattle.ev_types.specs.declared.value.Value.{Value}
use Rattle.pred_eval.specs.declared.rule.Ordering.{Ordering}
use Rattle.pred_eval.specs.Tree.{Tree, Trees, Always, Never, Not, All, Any, Tagged, Equal, Order, Wild, Search, none}
use Rattle.pred_eval.specs.Tree.{also}

pub data Mark : Type 0 where
  always : Mark
  never : Mark
  negated : Mark
  every : Mark
  some : Mark
  tagged : List ℕ → Mark
  equal : Field → Value → Mark
  order : Field → Ordering → ℤ → Mark
  wild : Field → List ℕ → Mark
  search_for : Field → List ℕ → Mark
  end : Mark
  more : Mark

pub data Part : Type 0 where
  tree : Tree → Part
  trees : Trees → Part

abbrev mutual
  marks : Tree → List Mark → List Mark
  marks Always rest = always ∷ rest
  marks Never rest = never ∷ rest
  marks (Not rule) rest = negated ∷ marks rule rest
  marks (All rules) rest = every ∷ marks_of rules rest
  marks (Any rules) rest = some ∷ marks_of rules rest
  marks (Tagged tag) rest = tagged tag ∷ rest
  marks (Equal field value) rest = equal field value ∷ rest
  marks (Order field holds number) rest = order field holds number ∷ rest
  marks (Wild field pattern) rest = wild field pattern ∷ rest
  marks (Search field pattern) rest = search_for field pattern ∷ rest

  marks_of : Trees → List Mark → List Mark
  marks_of none rest = end ∷ rest
  marks_of (also rule rules) rest = more ∷ marks rule (marks_of rules rest)

abbrev negate : List Part → List Part
negate (tree rule ∷ parts) = tree (Not rule) ∷ parts
negate (trees rules ∷ parts) = []
negate [] = []

abbrev all_of : List Part → List Part
all_of (trees rules ∷ parts) = tree (All rules) ∷ parts
all_of (tree rule ∷ parts) = []
all_of [] = []

abbrev any_of : List Part → List Part
any_of (trees rules ∷ parts) = tree (Any rules) ∷ parts
any_of (tree rule ∷ parts) = []
any_of [] = []

abbrev put_before : Tree → List Part → List Part
put_before rule (trees rules ∷ parts) = trees (also rule rules) ∷ parts
put_before rule (tree other ∷ parts) = []
put_before rule [] = []

abbrev put_first : List Part → List Part
put_first (tree rule ∷ parts) = put_before rule parts
put_first (trees rules ∷ parts) = []
put_first [] = []

abbrev read_mark : Mark → List Part → List Part
read_mark always parts = tree Always ∷ parts
read_mark never parts = tree Never ∷ parts
read_mark negated parts = negate parts
read_mark every parts = all_of parts
read_mark some parts = any_of parts
read_mark (tagged tag) parts = tree (Tagged tag) ∷ parts
read_mark (equal field value) parts = tree (Equal field value) ∷ parts
read_mark (order field holds number) parts = tree (Order field holds number) ∷ parts
read_mark (wild field pattern) parts = tree (Wild field pattern) ∷ parts
read_mark (search_for field pattern) parts = tree (Search field pattern) ∷ parts
read_mark end parts = trees none ∷ parts
read_mark more parts = put_first parts

abbrev read_marks : List Mark → List Part
read_marks [] = []
read_marks (mark ∷ marks) = read_mark mark (read_marks marks)

mutual
  pub read_back : (rule : Tree) (rest : List Mark) → read_marks (marks rule rest) ≡ tree rule ∷ read_marks rest
  read_back Always rest = refl
  read_back Never rest = refl
  read_back (Not rule) rest = ap negate (read_back rule rest)
  read_back (All rules) rest = ap all_of (read_all_back rules rest)
  read_back (Any rules) rest = ap any_of (read_all_back rules rest)
  read_back (Tagged tag) rest = refl
  read_back (Equal field value) rest = refl
  read_back (Order field holds number) rest = refl
  read_back (Wild field pattern) rest = refl
  read_back (Search field pattern) rest = refl

  pub read_all_back : (rules : Trees) (rest : List Mark)
      → read_marks (marks_of rules rest) ≡ trees rules ∷ read_marks rest
  read_all_back none rest = refl
  read_all_back (also rule rules) rest =
      ap put_first (read_back rule (marks_of rules rest)) ∙ ap (put_before rule) (read_all_back rules rest)

abbrev spelled : Tree → List Mark
spelled rule = marks rule []

abbrev first_tree : List Part → Tree
first_tree (tree rule ∷ parts) = rule
first_tree (trees rules ∷ parts) = Never
first_tree [] = Never

abbrev pub tree_code : Coded Mark → Coded Tree
tree_code mark_code =
    code_by (List Mark) (coded_list mark_code) spelled (λ list. first_tree (read_marks list))
    (λ rule. ap first_tree (read_back rule []))
