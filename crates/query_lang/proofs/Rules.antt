-- Rules in a row, as trees.
use Rattle.std.proofs.Common.{◌≡◌, ◌≢◌, List, [], ◌∷◌, length, map, Vec, Global, refl, ap, sym, ◌∙◌, subst}
use mathlib.Core.Former.{Count}
use Rattle.pred_eval.specs.declared.rule.Rule.{Rule, Row_of-Rule, end_of-Rule, more_of-Rule, items-the_row-Rule}
use Rattle.pred_eval.specs.declared.rule.Rule.{items_hidden-the_row-Rule-0}
use Rattle.pred_eval.specs.declared.rule.Rule as code
use Rattle.pred_eval.specs.Tree.{Trees, All, Any, also, tree_of, trees_of}
use Rattle.query_lang.specs.Grammar.{listed, any_of, all_of}

row_listed : (n : _) (row : Row_of-Rule n) → trees_of row ≡ listed (map tree_of (items-the_row-Rule n row))
row_listed n end_of-Rule = refl
row_listed n (more_of-Rule rule rules) = ap (also (tree_of rule)) (row_listed _ rules)

abbrev row_of : Rule → (n : Count) × Row_of-Rule n
row_of (code.All' shape row) = (_, row)
row_of (code.Any' shape row) = (_, row)
row_of rule = (_, end_of-Rule)

abbrev pub listed_items : List Rule → Trees
listed_items items = listed (map tree_of items)

pub any_listed : (parts : Vec Rule Global) → tree_of (code.Any parts) ≡ Any (listed_items parts.items)
any_listed parts =
    let row = row_of (code.Any parts) in
    ap Any (row_listed row.0 row.1 ∙ ap listed_items (items_hidden-the_row-Rule-0 parts))

pub all_listed : (parts : Vec Rule Global) → tree_of (code.All parts) ≡ All (listed_items parts.items)
all_listed parts =
    let row = row_of (code.All parts) in
    ap All (row_listed row.0 row.1 ∙ ap listed_items (items_hidden-the_row-Rule-0 parts))

any_many : (items : List Rule) → length items ≢ 1 → Any (listed_items items) ≡ any_of (map tree_of items)
any_many [] many = refl
any_many (rule ∷ []) many = absurd (many refl)
any_many (rule ∷ second ∷ rules) many = refl

all_many : (items : List Rule) → length items ≢ 1 → All (listed_items items) ≡ all_of (map tree_of items)
all_many [] many = refl
all_many (rule ∷ []) many = absurd (many refl)
all_many (rule ∷ second ∷ rules) many = refl

pub any_rule : (parts : Vec Rule Global) (items : List Rule) → length items ≢ 1 → parts.items ≡ items
    → tree_of (code.Any parts) ≡ any_of (map tree_of items)
any_rule parts items many same =
    any_listed parts
    ∙ subst (λ (rules : List Rule). Any (listed_items rules) ≡ any_of (map tree_of items)) (sym same)
    (any_many items many)

pub all_rule : (parts : Vec Rule Global) (items : List Rule) → length items ≢ 1 → parts.items ≡ items
    → tree_of (code.All parts) ≡ all_of (map tree_of items)
all_rule parts items many same =
    all_listed parts
    ∙ subst (λ (rules : List Rule). All (listed_items rules) ≡ all_of (map tree_of items)) (sym same)
    (all_many items many)

pub any_only : (items : List Rule) (rule : Rule) → items ≡ rule ∷ [] → tree_of rule ≡ any_of (map tree_of items)
any_only items rule same = subst (λ (rules : List Rule). tree_of rule ≡ any_of (map tree_of rules)) (sym same) refl

pub all_only : (items : List Rule) (rule : Rule) → items ≡ rule ∷ [] → tree_of rule ≡ all_of (map tree_of items)
all_only items rule same = subst (λ (rules : List Rule). tree_of rule ≡ all_of (map tree_of rules)) (sym same) refl
