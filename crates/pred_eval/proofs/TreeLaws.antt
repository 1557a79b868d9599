-- Rules as plain trees, at the values that the code makes.
use Rattle.std.proofs.Common.{◌≡◌, ℕ, ◌+◌, ◌<◌, List, [], ◌∷◌, ◌++◌, append_assoc, Bool, ◌&&◌, ◌||◌, take, drop, length}
use Rattle.std.proofs.Common.{length-append, min, arith, get_or, subst, ◌≤◌, Vec, Global, refl, sym, ap, ap₂, ◌∙◌}
use Rattle.std.proofs.lemmas.List.{take_more, drop_more}
use mathlib.Core.Former.{Count}
use Rattle.pred_eval.specs.declared.rule.Rule.{Rule, All', Row_of-Rule, end_of-Rule, more_of-Rule, items-the_row-Rule}
use Rattle.pred_eval.specs.declared.rule.Rule.{items_hidden-the_row-Rule-0}
use Rattle.pred_eval.specs.declared.rule.Rule as code
use Rattle.ev_types.specs.declared.event.Event.{Event}
use Rattle.regex.specs.declared.string.regex.Regex.{Regex}
use Rattle.pred_eval.specs.Search.{AreReadFrom}
use Rattle.pred_eval.proofs.SearchLaws.{read_front, read_back, read_front_fits}
use Rattle.list_laws.specs.Counts.{greatest}
use Rattle.pred_eval.specs.Truth.{holds, all_hold, any_holds, searches, searches_of}
use Rattle.pred_eval.specs.Tree.{Trees, none, also, All, Any, tree_of, trees_of, trees_in}

abbrev row_of : Rule → (n : Count) × Row_of-Rule n
row_of (All' _ row) = (_, row)
row_of _ = (_, end_of-Rule)

trees_of_row : (n : _) (row : Row_of-Rule n) → trees_of row ≡ trees_in (items-the_row-Rule n row)
trees_of_row n end_of-Rule = refl
trees_of_row n (more_of-Rule rule rest) = ap (λ rules. also (tree_of rule) rules) (trees_of_row _ rest)

in_all : (rules : Vec Rule Global) → trees_of (row_of (code.All rules)).1 ≡ trees_in rules.items
in_all rules =
    let row = row_of (code.All rules) in trees_of_row row.0 row.1 ∙ ap trees_in (items_hidden-the_row-Rule-0 rules)

pub tree_of_all : (rules : Vec Rule Global) → tree_of (code.All rules) ≡ All (trees_in rules.items)
tree_of_all rules = ap All (in_all rules)

pub tree_of_any : (rules : Vec Rule Global) → tree_of (code.Any rules) ≡ Any (trees_in rules.items)
tree_of_any rules = ap Any (in_all rules)

join : Trees → Trees → Trees
join none later = later
join (also rule rules) later = also rule (join rules later)

trees_in_append : (front back : List Rule) → trees_in (front ++ back) ≡ join (trees_in front) (trees_in back)
unfolding join
trees_in_append [] back = refl
trees_in_append (rule ∷ front) back = ap (λ rules. also (tree_of rule) rules) (trees_in_append front back)

-- one more rule at the end of both lists
pub one_more_tree : (copies copied rules : List Rule) (copy rule : Rule) (i : ℕ) → copied ≡ copies ++ copy ∷ [] →
    i < length rules → rule ≡ get_or rules i rule →
    trees_in copies ≡ trees_in (take i rules) → tree_of copy ≡ tree_of rule →
    trees_in copied ≡ trees_in (take (i + 1) rules)
one_more_tree copies copied rules copy rule i pushed within at so_far same =
    ap trees_in pushed
    ∙ trees_in_append copies (copy ∷ [])
    ∙ ap₂ (λ front back. join front (also back none)) so_far (same ∙ ap tree_of at)
    ∙ sym (trees_in_append (take i rules) (get_or rules i rule ∷ []))
    ∙ ap trees_in (sym (take_more rules i rule within))

-- the rules from a place on
pub next_rule : (rules : List Rule) (rule : Rule) (i : ℕ) → i < length rules → rule ≡ get_or rules i rule
    → trees_in (drop i rules) ≡ also (tree_of rule) (trees_in (drop (i + 1) rules))
next_rule rules rule i within at =
    ap trees_in (drop_more rules i rule within)
    ∙ ap (λ first. also (tree_of first) (trees_in (drop (i + 1) rules))) (sym at)

pub searches_of_all : (rule : Rule) (rules : Vec Rule Global) → rule ≡ code.All rules
    → searches (tree_of rule) ≡ searches_of (trees_in rules.items)
searches_of_all rule rules e = ap searches (ap tree_of e ∙ tree_of_all rules)

pub searches_of_any : (rule : Rule) (rules : Vec Rule Global) → rule ≡ code.Any rules
    → searches (tree_of rule) ≡ searches_of (trees_in rules.items)
searches_of_any rule rules e = ap searches (ap tree_of e ∙ tree_of_any rules)

pub holds_of_all : (event : Event) (rule : Rule) (rules : Vec Rule Global) → rule ≡ code.All rules
    → holds (tree_of rule) event ≡ all_hold (trees_in rules.items) event
holds_of_all event rule rules e = ap (λ tree. holds tree event) (ap tree_of e ∙ tree_of_all rules)

pub holds_of_any : (event : Event) (rule : Rule) (rules : Vec Rule Global) → rule ≡ code.Any rules
    → holds (tree_of rule) event ≡ any_holds (trees_in rules.items) event
holds_of_any event rule rules e = ap (λ tree. holds tree event) (ap tree_of e ∙ tree_of_any rules)

-- the texts of the rules from a place on, and what the rules say of an event
module _ (rules : List Rule) (rule : Rule) (i : ℕ) (within : i < length rules) (at : rule ≡ get_or rules i rule) where
  searches_next : searches_of (trees_in (drop i rules))
      ≡ searches (tree_of rule) ++ searches_of (trees_in (drop (i + 1) rules))
  searches_next = ap searches_of (next_rule rules rule i within at)

  -- one more rule is counted
  count_next : (count one next all : ℕ) → one ≡ min (length (searches (tree_of rule))) greatest →
      next ≡ min (count + one) greatest →
      min (count + length (searches_of (trees_in (drop i rules)))) greatest ≡ all →
      min (next + length (searches_of (trees_in (drop (i + 1) rules)))) greatest ≡ all
  count_next count one next all counted added so_far =
      let split : length (searches_of (trees_in (drop i rules)))
      ≡ length (searches (tree_of rule)) + length (searches_of (trees_in (drop (i + 1) rules)))
      = ap length searches_next
      ∙ length-append (searches (tree_of rule)) (searches_of (trees_in (drop (i + 1) rules))) in
      omega arith

  all_next : (event : Event)
      → all_hold (trees_in (drop i rules)) event
      ≡ (holds (tree_of rule) event && all_hold (trees_in (drop (i + 1) rules)) event)
  all_next event = ap (λ trees. all_hold trees event) (next_rule rules rule i within at)

  any_next : (event : Event)
      → any_holds (trees_in (drop i rules)) event
      ≡ (holds (tree_of rule) event || any_holds (trees_in (drop (i + 1) rules)) event)
  any_next event = ap (λ trees. any_holds trees event) (next_rule rules rule i within at)

module _ (rules : List Rule) (rule : Rule) (i : ℕ) (within : i < length rules) (at : rule ≡ get_or rules i rule)
    (left : List Regex)
    (read : AreReadFrom (searches_of (trees_in (drop i rules))) left) where
  read_both : AreReadFrom (searches (tree_of rule) ++ searches_of (trees_in (drop (i + 1) rules))) left
  read_both = subst (λ texts. AreReadFrom texts left) (searches_next rules rule i within at) read

  own_fit : length (searches (tree_of rule)) ≤ length left
  own_fit = read_front_fits (searches (tree_of rule)) (searches_of (trees_in (drop (i + 1) rules))) left read_both

  own_read : AreReadFrom (searches (tree_of rule)) (take (length (searches (tree_of rule))) left)
  own_read = read_front (searches (tree_of rule)) (searches_of (trees_in (drop (i + 1) rules))) left read_both

  later_read : AreReadFrom (searches_of (trees_in (drop (i + 1) rules))) (drop (length (searches (tree_of rule))) left)
  later_read = read_back (searches (tree_of rule)) (searches_of (trees_in (drop (i + 1) rules))) left read_both

nil_front : (front back : List (List ℕ)) → front ++ back ≡ [] → front ≡ []
nil_front [] back e = refl
nil_front (text ∷ front) back e = cc

nil_back : (front back : List (List ℕ)) → front ++ back ≡ [] → back ≡ []
nil_back [] back e = e
nil_back (text ∷ front) back e = cc

-- one step over the items of a list of rules
module _ (items rules : List Rule) (same : items ≡ rules) (rule : Rule) (i : ℕ) (in_items : i < length items)
    (is_item : rule ≡ get_or items i rule) where
  within : i < length rules
  within = subst (λ (list : List Rule). i < length list) same in_items

  at : rule ≡ get_or rules i rule
  at = subst (λ (list : List Rule). rule ≡ get_or list i rule) same is_item

  pub one_more_counted : (count one next all : ℕ) → one ≡ min (length (searches (tree_of rule))) greatest →
      next ≡ min (count + one) greatest →
      min (count + length (searches_of (trees_in (drop i rules)))) greatest ≡ all →
      min (next + length (searches_of (trees_in (drop (i + 1) rules)))) greatest ≡ all
  one_more_counted = count_next rules rule i within at

  pub own_patterns : (left own : List Regex) → AreReadFrom (searches_of (trees_in (drop i rules))) left →
      (length (searches (tree_of rule)) ≤ length left → own ≡ take (length (searches (tree_of rule))) left) →
      AreReadFrom (searches (tree_of rule)) own
  own_patterns left own read is =
      subst (λ regexes. AreReadFrom (searches (tree_of rule)) regexes)
      (sym (is (own_fit rules rule i within at left read))) (own_read rules rule i within at left read)

  pub later_patterns : (left later : List Regex) → AreReadFrom (searches_of (trees_in (drop i rules))) left →
      (length (searches (tree_of rule)) ≤ length left → later ≡ drop (length (searches (tree_of rule))) left) →
      AreReadFrom (searches_of (trees_in (drop (i + 1) rules))) later
  later_patterns left later read is =
      subst (λ regexes. AreReadFrom (searches_of (trees_in (drop (i + 1) rules))) regexes)
      (sym (is (own_fit rules rule i within at left read))) (later_read rules rule i within at left read)

  pub no_own : searches_of (trees_in (drop i rules)) ≡ [] → searches (tree_of rule) ≡ []
  no_own empty =
      nil_front (searches (tree_of rule)) (searches_of (trees_in (drop (i + 1) rules)))
      (sym (searches_next rules rule i within at) ∙ empty)

  pub no_later : searches_of (trees_in (drop i rules)) ≡ [] → searches_of (trees_in (drop (i + 1) rules)) ≡ []
  no_later empty =
      nil_back (searches (tree_of rule)) (searches_of (trees_in (drop (i + 1) rules)))
      (sym (searches_next rules rule i within at) ∙ empty)

  pub all_says : (event : Event) (met answer : Bool) → met ≡ holds (tree_of rule) event → met ≡ answer →
      all_hold (trees_in (drop i rules)) event ≡ (answer && all_hold (trees_in (drop (i + 1) rules)) event)
  all_says event met answer truth is =
      all_next rules rule i within at event
      ∙ ap (λ t. t && all_hold (trees_in (drop (i + 1) rules)) event) (sym truth ∙ is)

  pub any_says : (event : Event) (met answer : Bool) → met ≡ holds (tree_of rule) event → met ≡ answer →
      any_holds (trees_in (drop i rules)) event ≡ (answer || any_holds (trees_in (drop (i + 1) rules)) event)
  any_says event met answer truth is =
      any_next rules rule i within at event
      ∙ ap (λ t. t || any_holds (trees_in (drop (i + 1) rules)) event) (sym truth ∙ is)

  pub one_more_appended : (before after all : List (List ℕ)) → after ≡ before ++ searches (tree_of rule) →
      before ++ searches_of (trees_in (drop i rules)) ≡ all → after ++ searches_of (trees_in (drop (i + 1) rules)) ≡ all
  one_more_appended before after all appended so_far =
      ap (λ texts. texts ++ searches_of (trees_in (drop (i + 1) rules))) appended
      ∙ append_assoc before (searches (tree_of rule)) (searches_of (trees_in (drop (i + 1) rules)))
      ∙ ap (λ texts. before ++ texts) (sym (searches_next rules rule i within at)) ∙ so_far
