use Rattle.std.proofs.Common.{◌≡◌, ◌∷◌, length}
use Rattle.pred_eval.specs.Wild.{is_wild, percent}
use Rattle.pred_eval.proofs.wild.ends_wild.Given as goal

abbrev pub invariant-loop-at : goal.invariant-loop-at
invariant-loop-at l = is_wild (percent ∷ l.pattern) l.text ≡ is_wild (percent ∷ l.fn.pattern) l.fn.text

abbrev pub decreases-loop-at : goal.decreases-loop-at
decreases-loop-at l = length l.pattern
