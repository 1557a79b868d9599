use Rattle.std.proofs.Common.{◌≡◌, ◌<◌, List, length, get_or, set, ap, sym, ◌∙◌, subst, refl, ℕ}
use Rattle.std.proofs.lemmas.List.{get_or_default, length-set}
use Rattle.conn_core.specs.Kept.{AreOld, AreRising, Kept, number_at}
use Rattle.ports.specs.declared.links.Want.{Want}
use Rattle.conn_core.proofs.Numbers.{no_want, set_old, set_rising}
use Rattle.conn_core.proofs.table.LinkTable.set_want.Goals as goal

pub invariant_of-self : goal.invariant_of-self
invariant_of-self g c =
    let place = c.args.place in
    let wants = c.self.inside.wants in
    let values = ap (λ (table : Kept g.row.T.Denot). table.values) c.self.view_is in
    let bound : place < length c.self.inside.values.items =
    subst (λ (vs : List g.row.T.Denot). place < length vs) (sym values) c.requires in
    let within : place < length wants = subst (λ (n : ℕ). place < n) (sym c.self.invariant.2) bound in
    let want : Want = record { link = number_at wants place; read = c.args.read; room = c.args.room } in
    let taken : c.into_vec-wants.result.items ≡ wants = c.into_vec-wants.ensures ∙ c.replace.ensures.value in
    let read : c.index.result.now ≡ get_or wants place no_want =
    c.index.ensures ∙ ap (λ (ws : List Want). get_or ws place c.index.result.now) taken
    ∙ get_or_default wants place c.index.result.now no_want within in
    let is : c.from_vec.result ≡ set wants place want =
    c.from_vec.ensures
    ∙ ap
    (λ (w : Want).
    set c.into_vec-wants.result.items place (record { link = w.link; read = c.args.read; room = c.args.room }))
    read
    ∙ ap (λ (ws : List Want). set ws place want) taken in (
      subst AreRising (sym is) (set_rising wants place want refl within c.self.invariant.0),
      subst (AreOld c.self.inside.newest) (sym is)
          (set_old c.self.inside.newest wants place want refl within c.self.invariant.1),
      ap (λ (ws : List Want). length ws) is ∙ length-set wants place want ∙ c.self.invariant.2,
    )
