use Rattle.std.proofs.Common.{◌≡◌, take}
use Rattle.pred_eval.specs.Building.{texts_of}
use Rattle.pred_eval.specs.Search.{AreReadFrom}
use Rattle.pred_eval.proofs.patterns.build_all.Given as goal

abbrev pub invariant-loop-text : goal.invariant-loop-text
invariant-loop-text g l = record {
  built : AreReadFrom (take l.text-index (texts_of l.texts)) l.built.items;
  number : l.number ≡ l.text-index;
  counted : (g.P.Patterns.report l.patterns).refusals ≡ (g.P.Patterns.report l.fn.patterns).refusals;
  reported : (g.P.Patterns.report l.patterns).refused ≡ (g.P.Patterns.report l.fn.patterns).refused;
}
