use Rattle.std.proofs.Common.{◌<◌, ℕ, List, [], ◌∷◌, length, Ok, refl, sym, subst}
use Rattle.std.specs.Prelude.{Option}
use Rattle.hub_link.specs.declared.link.HubLink.{HubLink}
use Rattle.hub_link.specs.HubLink.{RepresentsLink}
use Rattle.hub_link.proofs.AddedLaws.{added_nothing}
use Rattle.ports.specs.declared.entry.Entry.{Entry}
use Rattle.ports.specs.declared.entry.Entry.TheVariants.{Close}
use Rattle.ports.specs.Links.{grown}
use Rattle.conn_core.specs.Known.{AreUnclosed}
use Rattle.conn_core.specs.Reaching.{Finishes}
use Rattle.conn_core.proofs.KnownLaws.{known_removed}
use Rattle.conn_core.proofs.ReachLaws.{finishes_closed, finishes_kept}
use Rattle.conn_core.proofs.links.finish.Goals as goal

pub returns-then-is_over-clause-known : goal.returns-then-is_over-clause-known
returns-then-is_over-clause-known g c =
    let wants = c.args.table.now.wants in
    let within : c.args.place < length wants =
    subst (λ (n : ℕ). c.args.place < n) (sym c.requires.at.beside) c.requires.at.within in
    subst (λ (log : Option (List Entry)). AreUnclosed log c.remove.new.self.wants) (sym c.close.ensures.adds.log)
    (subst (AreUnclosed (grown (g.L.Links.report c.args.links.now).log (Close c.args.number ∷ [])))
    (sym c.remove.ensures.wants)
    (known_removed (g.L.Links.report c.args.links.now).log wants c.args.number c.args.place within c.requires.at.only
    c.requires.known))

pub returns-then-is_over-clause-finishes : goal.returns-then-is_over-clause-finishes
returns-then-is_over-clause-finishes g c = record {
  run = Close c.args.number ∷ [];
  grew = c.close.ensures.adds;
  no_fault = c.close.ensures.no_fault;
  calls = (tt, tt);
  holds = finishes_closed c.args.table.now c.remove.new.self c.args.number c.args.place
      (λ meant all.
      let represents : RepresentsLink c.value-link.result.now meant =
      subst (λ (v : HubLink). RepresentsLink v meant) (sym c.value-link.ensures) (all c.value-link.result.now) in
      (c.if-is_over.ensures meant represents).0 refl)
      c.remove.ensures.wants c.remove.ensures.values c.remove.ensures.newest;
}

pub returns-else-is_over-clause-finishes : goal.returns-else-is_over-clause-finishes
returns-else-is_over-clause-finishes g c =
    added_nothing (g.L.Links.report c.args.links.now)
    (Finishes c.args.table.now c.set_want.new.self c.args.number c.args.place (Ok tt))
    (finishes_kept c.args.table.now c.set_want.new.self c.args.number c.args.place c.want-want.result
    (λ meant all.
    let represents : RepresentsLink c.value-link.result.now meant =
    subst (λ (v : HubLink). RepresentsLink v meant) (sym c.value-link.ensures) (all c.value-link.result.now) in (
      λ may. let is = (c.if-is_over.ensures meant represents).1 may in absurd (cc is),
      c.want-want.ensures.represents meant represents,
    ))
    c.set_want.ensures.wants c.set_want.ensures.values c.set_want.ensures.newest)
