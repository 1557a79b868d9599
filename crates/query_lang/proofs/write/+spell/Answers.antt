use Rattle.std.proofs.Common.{◌∙◌, ap, List, ℕ, ◌++◌}
use Rattle.query_lang.proofs.SpellingLaws.{all_spelled, any_spelled, parts_step}
use Rattle.query_lang.proofs.write.+spell.Goals as goal

pub put_rule-returns-in_ok-put_all-in-All-clause-ok : goal.put_rule-returns-in_ok-put_all-in-All-clause-ok
put_rule-returns-in_ok-put_all-in-All-clause-ok t c =
    c.in_ok-put_all-in-All.ensures.ok
    ∙ ap (λ (text : List ℕ). c.args.out.now ++ text)
    (all_spelled c.args.rule.now c.in-All.parts _ c.args.under c.in-All.is c.as_slice.ensures.value)

pub put_rule-returns-in_ok-put_any-in-Any-clause-ok : goal.put_rule-returns-in_ok-put_any-in-Any-clause-ok
put_rule-returns-in_ok-put_any-in-Any-clause-ok t c =
    c.in_ok-put_any-in-Any.ensures.ok
    ∙ ap (λ (text : List ℕ). c.args.out.now ++ text)
    (any_spelled c.args.rule.now c.in-Any.parts _ c.args.under c.in-Any.is c.as_slice-in-Any.ensures.value)

pub put_parts-loop-part-preserved : goal.put_parts-loop-part-preserved
put_parts-loop-part-preserved t c =
    parts_step _ _ _ _ _ _ _ _ _ _ c.loop-part.invariant c.in_ok-append.ensures.ok c.in_ok-put_rule-2.ensures.ok
    c.loop-part-test.true c.part-item.is
