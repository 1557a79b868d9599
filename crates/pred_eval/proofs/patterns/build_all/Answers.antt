use Rattle.std.proofs.Common.{◌+◌, ap, subst, sym, ◌∙◌}
use Rattle.pred_eval.specs.Search.{IsReadFrom}
use Rattle.pred_eval.proofs.BuildLaws.{one_more_built, nothing_reported}
use Rattle.pred_eval.proofs.patterns.build_all.Goals as goal

pub loop-text-preserved : goal.loop-text-preserved
loop-text-preserved g c = record {
  built =
      one_more_built c.args.texts.now c.text-item.result c.loop-text.text-index c.loop-text-test.true c.text-item.is
      c.loop-text.built.items c.push.new.self.items c.in_ok-finder-in-Built.finder
      c.loop-text.invariant.built
      (subst (IsReadFrom c.text-item.result.now) (sym c.in_ok-finder-in-Built.ensures) c.in-Built.ensures.built)
      c.in_ok-push-in-Built.ensures.items;
  number = ap (λ n. n + 1) c.loop-text.invariant.number;
  counted = c.in-Built.ensures.counted ∙ c.loop-text.invariant.counted;
  reported =
      c.in-Built.ensures.reported ∙ nothing_reported (g.P.Patterns.report c.loop-text.patterns).refused
      ∙ c.loop-text.invariant.reported;
}
