use Rattle.std.proofs.Common.{ℕ, ap, subst}
use Rattle.std.specs.Prelude.{Option, Some}
use Rattle.conn_core.specs.Kept.{AreOld, Kept}
use Rattle.conn_core.proofs.Numbers.{new_is_absent}
use Rattle.conn_core.proofs.table.LinkTable.is_newer.Goals as goal

pub returns-in-Some-clause-absent : goal.returns-in-Some-clause-absent
returns-in-Some-clause-absent g c = λ newer.
    let wants = ap (λ (table : Kept g.row.T.Denot). table.wants) c.self.view_is in
    let old = subst (λ (n : Option ℕ). AreOld n c.self.inside.wants) c.in-Some.is c.self.invariant.1 in
    new_is_absent (Some c.in-Some.newest) c.args.self.now.wants c.args.number
    (subst (AreOld (Some c.in-Some.newest)) wants old) newer
