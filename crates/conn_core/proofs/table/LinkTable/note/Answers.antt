use Rattle.std.proofs.Common.{true, ◌≡◌, ap, sym, subst, ℕ}
use Rattle.std.specs.Prelude.{Option}
use Rattle.conn_core.specs.Kept.{Kept, is_newer}
use Rattle.conn_core.proofs.Numbers.{noted_old}
use Rattle.conn_core.proofs.table.LinkTable.note.Goals as goal

pub invariant_of-self : goal.invariant_of-self
invariant_of-self g c =
    let newest = ap (λ (table : Kept g.row.T.Denot). table.newest) c.self.view_is in
    let newer = subst (λ (n : Option ℕ). is_newer c.args.number n ≡ true) (sym newest) c.requires in (
      c.self.invariant.0,
      noted_old c.self.inside.newest c.self.inside.wants c.args.number c.self.invariant.1 newer,
      c.self.invariant.2,
    )
