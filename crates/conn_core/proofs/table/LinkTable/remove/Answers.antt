use Rattle.std.proofs.Common.{◌≡◌, ◌<◌, List, length, ap, sym, ◌∙◌, subst, arith, ℕ}
use Rattle.std.specs.List.{remove}
use Rattle.std.proofs.lemmas.List.Edits.{length-remove}
use Rattle.conn_core.specs.Kept.{AreOld, AreRising, Kept}
use Rattle.ports.specs.declared.links.Want.{Want}
use Rattle.conn_core.proofs.Numbers.{removed_old, removed_rising}
use Rattle.conn_core.proofs.table.LinkTable.remove.Goals as goal

pub invariant_of-self : goal.invariant_of-self
invariant_of-self g c =
    let place = c.args.place in
    let taken = c.into_vec-wants.ensures ∙ c.replace.ensures.value in
    let is : c.from_vec.result ≡ remove c.self.inside.wants place =
    c.from_vec.ensures ∙ c.remove-want.ensures.items ∙ ap (λ (ws : List Want). remove ws place) taken in
    let values = ap (λ (table : Kept g.row.T.Denot). table.values) c.self.view_is in
    let bound : place < length c.self.inside.values.items =
    subst (λ (vs : List g.row.T.Denot). place < length vs) (sym values) c.requires in
    let within : place < length c.self.inside.wants = subst (λ (n : ℕ). place < n) (sym c.self.invariant.2) bound in
    let count = length-remove c.self.inside.wants place within in
    let rest = length-remove c.self.inside.values.items place bound in
    let same : length c.from_vec.result ≡ length (remove c.self.inside.wants place) =
    ap (λ (ws : List Want). length ws) is in
    let kept : length c.remove-value.new.self.items ≡ length (remove c.self.inside.values.items place) =
    ap (λ (vs : List g.row.T.Denot). length vs) c.remove-value.ensures.items in (
      subst AreRising (sym is) (removed_rising c.self.inside.wants place within c.self.invariant.0),
      subst (AreOld c.self.inside.newest) (sym is)
          (removed_old c.self.inside.newest c.self.inside.wants place within c.self.invariant.1),
      omega (arith, c.self.invariant.2),
    )
