use Rattle.std.proofs.Common.{min, length, arith, ap, sym, ◌∙◌}
use Rattle.list_laws.specs.Counts.{greatest}
use Rattle.pred_eval.proofs.TreeLaws.{searches_of_all, searches_of_any, one_more_counted}
use Rattle.pred_eval.proofs.truth.+count.Goals as goal

pub pattern_count-returns-in-All : goal.pattern_count-returns-in-All
pattern_count-returns-in-All t c =
    c.count_patterns.ensures
    ∙ ap (λ texts. min (length texts) greatest) (sym (searches_of_all c.args.rule.now c.in-All.rules c.in-All.is))

pub pattern_count-returns-in-Any : goal.pattern_count-returns-in-Any
pattern_count-returns-in-Any t c =
    c.count_patterns-in-Any.ensures
    ∙ ap (λ texts. min (length texts) greatest) (sym (searches_of_any c.args.rule.now c.in-Any.rules c.in-Any.is))

pub count_patterns-loop-rule-preserved : goal.count_patterns-loop-rule-preserved
count_patterns-loop-rule-preserved t c = record {
  counted =
      one_more_counted c.deref-rule-items.result.now c.args.rules.now.items c.deref-rule-items.ensures.value
      c.rule-item.result c.loop-rule.rule-index c.loop-rule-test.true c.rule-item.is
      c.loop-rule.count c.pattern_count.result c.saturating_add-count.result _ c.pattern_count.ensures
      c.saturating_add-count.ensures c.loop-rule.invariant.counted;
  small = omega (arith, c.saturating_add-count.ensures);
}
