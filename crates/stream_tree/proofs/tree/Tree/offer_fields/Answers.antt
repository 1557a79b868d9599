use Rattle.std.proofs.Common.{sym, subst}
use Rattle.ev_types.specs.declared.item.Item.TheVariants.{One}
use Rattle.stream_meaning.specs.declared.entry.Entry.TheVariants.{Item as In}
use Rattle.stream_meaning.specs.History.{◌▸◌}
use Rattle.stream_tree.specs.declared.tree.Tree.{Tree}
use Rattle.stream_tree.specs.Tree.{plan_of, Represents}
use Rattle.stream_tree.proofs.UnseenLaws.{nothing_done, write_done, tree_stays}
use Rattle.stream_tree.proofs.tree.Tree.offer_fields.Goals as goal

pub returns-clause-nothing : goal.returns-clause-nothing
returns-clause-nothing g c = λ is h represents.
    nothing_done (plan_of c.args.self.now) c.in_ok-unseen.unseen (g.E.EventFields.event c.args.event.now) h
    (c.in_ok-unseen.ensures.answer h represents) is

pub returns-clause-write : goal.returns-clause-write
returns-clause-write g c = λ is h represents.
    write_done (plan_of c.args.self.now) c.in_ok-unseen.unseen (g.E.EventFields.event c.args.event.now) h
    (c.in_ok-unseen.ensures.answer h represents) is

pub returns-clause-represents : goal.returns-clause-represents
returns-clause-represents g c = λ seen h represents.
    let event = g.E.EventFields.event c.args.event.now in
    subst (λ (tree : Tree). Represents tree (h ▸ In (One event))) (sym c.in_ok-unseen.ensures.unchanged)
    (tree_stays c.args.self.now c.in_ok-unseen.unseen event h (c.in_ok-unseen.ensures.answer h represents) seen
    represents)
