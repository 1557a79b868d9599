use Rattle.std.proofs.Common.{ℕ, ◌<◌, ◌≤◌, List, [], ◌∷◌, Ok, ap, sym, ◌∙◌, subst}
use Rattle.std.proofs.lemmas.Bool.{ltb-false, ltb-true}
use Rattle.std.specs.Prelude.{Option}
use Rattle.hub_link.specs.declared.link.HubLink.{HubLink}
use Rattle.hub_link.proofs.AddedLaws.{added_nothing}
use Rattle.hub_link.specs.hub_meaning.Links.{connected_limit, opened}
use Rattle.conn_core.specs.Kept.{Kept}
use Rattle.ports.specs.Links.{grown}
use Rattle.ports.specs.declared.entry.Entry.{Entry}
use Rattle.ports.specs.declared.entry.Entry.TheVariants.{Close}
use Rattle.conn_core.specs.Known.{AreUnclosed}
use Rattle.conn_core.specs.Reaching.{Changes}
use Rattle.conn_core.proofs.KnownLaws.{known_apart}
use Rattle.conn_core.proofs.ReachLaws.{changes_added, changes_full}
use Rattle.conn_core.proofs.links.open.Goals as goal

pub returns-then-not-may_connect-clause-known : goal.returns-then-not-may_connect-clause-known
returns-then-not-may_connect-clause-known g c =
    let wants = c.args.table.now.wants in
    let same = ap (λ (t : Kept HubLink). t.wants) c.note.ensures in
    subst (λ (log : Option (List Entry)). AreUnclosed log c.note.new.self.wants) (sym c.close.ensures.adds.log)
    (subst (AreUnclosed (grown (g.L.Links.report c.args.links.now).log (Close c.args.number ∷ []))) (sym same)
    (known_apart (g.L.Links.report c.args.links.now).log wants c.args.number
    (c.is_newer.ensures.absent c.if-not-is_newer.false) c.requires.known))

pub returns-then-not-may_connect-clause-changes : goal.returns-then-not-may_connect-clause-changes
returns-then-not-may_connect-clause-changes g c = record {
  run = Close c.args.number ∷ [];
  grew = c.close.ensures.adds;
  no_fault = c.close.ensures.no_fault;
  calls = (tt, tt);
  holds =
      changes_full c.args.table.now c.note.new.self c.args.number
      (sym c.is_newer.ensures.value ∙ c.if-not-is_newer.false)
      (subst (λ (n : ℕ). connected_limit ≤ n) c.len.ensures.value
      (ltb-false c.len.result connected_limit (sym c.may_connect.ensures ∙ c.if-not-may_connect.true)))
      (ap (λ (t : Kept HubLink). t.wants) c.note.ensures) (ap (λ (t : Kept HubLink). t.values) c.note.ensures)
      (ap (λ (t : Kept HubLink). t.newest) c.note.ensures);
}

pub returns-clause-changes : goal.returns-clause-changes
returns-clause-changes g c =
    added_nothing (g.L.Links.report c.args.links.now)
    (Changes (opened c.args.number) c.args.table.now c.add.new.table (Ok tt))
    (changes_added c.args.table.now c.add.new.table c.args.number
    (sym c.is_newer.ensures.value ∙ c.if-not-is_newer.false)
    (subst (λ (n : ℕ). n < connected_limit) c.len.ensures.value
    (ltb-true c.len.result connected_limit (sym c.may_connect.ensures ∙ c.if-not-may_connect.false))) c.in_ok-add.ensures)
