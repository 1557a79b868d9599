use Rattle.std.proofs.Common.{true, ◌≡◌, ◌∷◌, [], ◌++◌, ap, sym, subst, arith, ℕ}
use Rattle.std.specs.Prelude.{Option, Some}
use Rattle.std.proofs.lemmas.Grind.{common_steps}
use Rattle.conn_core.specs.Kept.{AreOld, AreRising, Kept, is_newer}
use Rattle.conn_core.proofs.Numbers.{added_old, added_rising, length_more}
use Rattle.conn_core.proofs.table.LinkTable.add.Goals as goal

pub invariant_of-self-2 : goal.invariant_of-self-2
invariant_of-self-2 g c =
    let newest = ap (λ (table : Kept g.row.T.Denot). table.newest) c.self.view_is in
    let newer = subst (λ (n : Option ℕ). is_newer c.args.want.link n ≡ true) (sym newest) c.requires in
    let is : c.push.new.self ≡ c.self.inside.wants ++ c.args.want ∷ [] = c.in_ok-push.ensures.ok in
    let count = length_more c.self.inside.wants c.args.want in (
      subst AreRising (sym is)
          (added_rising c.self.inside.newest c.self.inside.wants c.args.want c.self.invariant.0 c.self.invariant.1
          newer),
      subst (AreOld (Some c.args.want.link)) (sym is)
          (added_old c.self.inside.newest c.self.inside.wants c.args.want c.self.invariant.1 newer),
      grind (arith, common_steps),
    )
