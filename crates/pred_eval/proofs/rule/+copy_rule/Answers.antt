use Rattle.std.proofs.Common.{◌≡◌, ◌<◌, List, length, get_or, ap, sym, subst, ◌∙◌}
use Rattle.pred_eval.specs.declared.rule.Rule.{Rule}
use Rattle.pred_eval.specs.Tree.{All, Any, tree_of}
use Rattle.pred_eval.proofs.TreeLaws.{tree_of_all, tree_of_any, one_more_tree}
use Rattle.pred_eval.proofs.rule.+copy_rule.Goals as goal

pub Rule::copy-returns-in_ok-copy_rules-in-All : goal.Rule::copy-returns-in_ok-copy_rules-in-All
Rule::copy-returns-in_ok-copy_rules-in-All t c =
    tree_of_all c.in_ok-copy_rules-in-All.field-0 ∙ ap All c.in_ok-copy_rules-in-All.ensures
    ∙ sym (tree_of_all c.in-All.rules) ∙ ap tree_of (sym c.in-All.is)

pub Rule::copy-returns-in_ok-copy_rules-in-Any : goal.Rule::copy-returns-in_ok-copy_rules-in-Any
Rule::copy-returns-in_ok-copy_rules-in-Any t c =
    tree_of_any c.in_ok-copy_rules-in-Any.field-0 ∙ ap Any c.in_ok-copy_rules-in-Any.ensures
    ∙ sym (tree_of_any c.in-Any.rules) ∙ ap tree_of (sym c.in-Any.is)

pub copy_rules-loop-rule-preserved : goal.copy_rules-loop-rule-preserved
copy_rules-loop-rule-preserved t c =
    let items = c.deref-rule-items.ensures.value in
    one_more_tree c.loop-rule.copies.items c.push.new.self.items c.args.rules.now.items c.in_ok-copy.field-0
    c.rule-item.result c.loop-rule.rule-index
    c.in_ok-push.ensures.items
    (subst (λ (rules : List Rule). c.loop-rule.rule-index < length rules) items c.loop-rule-test.true)
    (subst (λ (rules : List Rule). c.rule-item.result ≡ get_or rules c.loop-rule.rule-index c.rule-item.result) items
    c.rule-item.is)
    c.loop-rule.invariant c.in_ok-copy.ensures
