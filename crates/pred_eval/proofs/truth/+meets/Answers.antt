use Rattle.std.proofs.Common.{◌≡◌, true, false, IfOk, sym, subst, true≢false, ◌∙◌}
use Rattle.pred_eval.specs.Search.{AreReadFrom}
use Rattle.pred_eval.proofs.TreeLaws.{searches_of_all, searches_of_any, holds_of_all, holds_of_any, own_patterns}
use Rattle.pred_eval.proofs.TreeLaws.{later_patterns, no_own, no_later, all_says, any_says}
use Rattle.pred_eval.proofs.truth.+meets.Goals as goal

pub meets-returns-in-All-clause-truth : goal.meets-returns-in-All-clause-truth
meets-returns-in-All-clause-truth g t c read =
    subst (λ truth. IfOk c.meets_all.result (λ met. met ≡ truth))
    (sym (holds_of_all (g.E.EventFields.event c.args.event.now) c.args.rule.now c.in-All.rules c.in-All.is))
    (c.meets_all.ensures.truth
    (subst (λ texts. AreReadFrom texts c.args.patterns.now) (searches_of_all c.args.rule.now c.in-All.rules c.in-All.is)
    read))

pub meets-returns-in-All-clause-memory : goal.meets-returns-in-All-clause-memory
meets-returns-in-All-clause-memory g t c none =
    c.meets_all.ensures.memory (sym (searches_of_all c.args.rule.now c.in-All.rules c.in-All.is) ∙ none)

pub meets-returns-in-Any-clause-truth : goal.meets-returns-in-Any-clause-truth
meets-returns-in-Any-clause-truth g t c read =
    subst (λ truth. IfOk c.meets_any.result (λ met. met ≡ truth))
    (sym (holds_of_any (g.E.EventFields.event c.args.event.now) c.args.rule.now c.in-Any.rules c.in-Any.is))
    (c.meets_any.ensures.truth
    (subst (λ texts. AreReadFrom texts c.args.patterns.now) (searches_of_any c.args.rule.now c.in-Any.rules c.in-Any.is)
    read))

pub meets-returns-in-Any-clause-memory : goal.meets-returns-in-Any-clause-memory
meets-returns-in-Any-clause-memory g t c none =
    c.meets_any.ensures.memory (sym (searches_of_any c.args.rule.now c.in-Any.rules c.in-Any.is) ∙ none)

pub meets_all-returns-in_err-met-clause-memory : goal.meets_all-returns-in_err-met-clause-memory
meets_all-returns-in_err-met-clause-memory g t c nothing =
    absurd (true≢false (sym
    (c.in_err-met.ensures.memory
    (no_own c.deref-rule-items.result.now c.args.rules.now.items c.deref-rule-items.ensures.value c.rule-item.result
    c.loop-rule.rule-index c.loop-rule-test.true c.rule-item.is (c.loop-rule.invariant.none nothing)))))

pub meets_all-returns-then-not-met-clause-truth : goal.meets_all-returns-then-not-met-clause-truth
meets_all-returns-then-not-met-clause-truth g t c read =
    let own =
    own_patterns c.deref-rule-items.result.now c.args.rules.now.items c.deref-rule-items.ensures.value
    c.rule-item.result c.loop-rule.rule-index c.loop-rule-test.true c.rule-item.is c.loop-rule.left.now
    c.split_patterns.result.0.now (c.loop-rule.invariant.read read) c.split_patterns.ensures.own in
    sym (sym (c.loop-rule.invariant.truth read)
    ∙ all_says c.deref-rule-items.result.now c.args.rules.now.items c.deref-rule-items.ensures.value c.rule-item.result
    c.loop-rule.rule-index c.loop-rule-test.true c.rule-item.is
    (g.E.EventFields.event c.args.event.now) c.in_ok-met.met false
    (c.in_ok-met.ensures.truth own) c.if-not-met.true)

pub meets_all-loop-rule-preserved : goal.meets_all-loop-rule-preserved
meets_all-loop-rule-preserved g t c = record {
  read =
      λ whole. later_patterns c.deref-rule-items.result.now c.args.rules.now.items c.deref-rule-items.ensures.value
      c.rule-item.result c.loop-rule.rule-index c.loop-rule-test.true c.rule-item.is c.loop-rule.left.now
      c.split_patterns.result.1.now (c.loop-rule.invariant.read whole) c.split_patterns.ensures.later;
  truth = λ whole.
      let own =
      own_patterns c.deref-rule-items.result.now c.args.rules.now.items c.deref-rule-items.ensures.value
      c.rule-item.result c.loop-rule.rule-index c.loop-rule-test.true c.rule-item.is c.loop-rule.left.now
      c.split_patterns.result.0.now (c.loop-rule.invariant.read whole) c.split_patterns.ensures.own in
      sym (all_says c.deref-rule-items.result.now c.args.rules.now.items c.deref-rule-items.ensures.value
      c.rule-item.result c.loop-rule.rule-index c.loop-rule-test.true c.rule-item.is
      (g.E.EventFields.event c.args.event.now) c.in_ok-met.met
      true (c.in_ok-met.ensures.truth own) c.if-not-met.false)
      ∙ c.loop-rule.invariant.truth whole;
  none =
      λ nothing. no_later c.deref-rule-items.result.now c.args.rules.now.items c.deref-rule-items.ensures.value
      c.rule-item.result c.loop-rule.rule-index c.loop-rule-test.true c.rule-item.is
      (c.loop-rule.invariant.none nothing);
}

pub meets_any-returns-in_err-met-clause-memory : goal.meets_any-returns-in_err-met-clause-memory
meets_any-returns-in_err-met-clause-memory g t c nothing =
    absurd (true≢false (sym
    (c.in_err-met.ensures.memory
    (no_own c.deref-rule-items.result.now c.args.rules.now.items c.deref-rule-items.ensures.value c.rule-item.result
    c.loop-rule.rule-index c.loop-rule-test.true c.rule-item.is (c.loop-rule.invariant.none nothing)))))

pub meets_any-returns-then-met-clause-truth : goal.meets_any-returns-then-met-clause-truth
meets_any-returns-then-met-clause-truth g t c read =
    let own =
    own_patterns c.deref-rule-items.result.now c.args.rules.now.items c.deref-rule-items.ensures.value
    c.rule-item.result c.loop-rule.rule-index c.loop-rule-test.true c.rule-item.is c.loop-rule.left.now
    c.split_patterns.result.0.now (c.loop-rule.invariant.read read) c.split_patterns.ensures.own in
    sym (sym (c.loop-rule.invariant.truth read)
    ∙ any_says c.deref-rule-items.result.now c.args.rules.now.items c.deref-rule-items.ensures.value c.rule-item.result
    c.loop-rule.rule-index c.loop-rule-test.true c.rule-item.is
    (g.E.EventFields.event c.args.event.now) c.in_ok-met.met true
    (c.in_ok-met.ensures.truth own) c.if-met.true)

pub meets_any-loop-rule-preserved : goal.meets_any-loop-rule-preserved
meets_any-loop-rule-preserved g t c = record {
  read =
      λ whole. later_patterns c.deref-rule-items.result.now c.args.rules.now.items c.deref-rule-items.ensures.value
      c.rule-item.result c.loop-rule.rule-index c.loop-rule-test.true c.rule-item.is c.loop-rule.left.now
      c.split_patterns.result.1.now (c.loop-rule.invariant.read whole) c.split_patterns.ensures.later;
  truth = λ whole.
      let own =
      own_patterns c.deref-rule-items.result.now c.args.rules.now.items c.deref-rule-items.ensures.value
      c.rule-item.result c.loop-rule.rule-index c.loop-rule-test.true c.rule-item.is c.loop-rule.left.now
      c.split_patterns.result.0.now (c.loop-rule.invariant.read whole) c.split_patterns.ensures.own in
      sym (any_says c.deref-rule-items.result.now c.args.rules.now.items c.deref-rule-items.ensures.value
      c.rule-item.result c.loop-rule.rule-index c.loop-rule-test.true c.rule-item.is
      (g.E.EventFields.event c.args.event.now) c.in_ok-met.met
      false (c.in_ok-met.ensures.truth own) c.if-met.false)
      ∙ c.loop-rule.invariant.truth whole;
  none =
      λ nothing. no_later c.deref-rule-items.result.now c.args.rules.now.items c.deref-rule-items.ensures.value
      c.rule-item.result c.loop-rule.rule-index c.loop-rule-test.true c.rule-item.is
      (c.loop-rule.invariant.none nothing);
}
