use Rattle.std.proofs.Common.{refl}
use Rattle.graphite_lines.specs.Lines.{without_cr}
use Rattle.graphite_lines.proofs.lines.without_cr.Goals as goal

pub returns-then-line-len-eq-CARRIAGE_RETURN : goal.returns-then-line-len-eq-CARRIAGE_RETURN
unfolding without_cr
returns-then-line-len-eq-CARRIAGE_RETURN c = rw c.if-line-len-eq-CARRIAGE_RETURN.true refl
