use Rattle.std.proofs.Common.{arith, ◌≡◌, ap, ◌∙◌}
use Rattle.linked_slots.specs.IdLists.{IdLists, without}
use Rattle.linked_slots.specs.Nodes.{lists_after}
use Rattle.linked_slots.proofs.LinkLaws.{linked-unlinked, listed-in, removed-more}
use Rattle.linked_slots.proofs.id_lists.Lists.unlink.Goals as goal

pub invariant_of-self : goal.invariant_of-self
invariant_of-self c =
    let id = c.args.id in
    let heads = c.self.inside.heads.items in
    let lists = lists_after heads c.self.inside.changes.items in
    let is : lists ≡ c.args.self.now.lists = ap (λ (v : IdLists). v.lists) c.self.view_is in
    record {
      linked =
          rw
          (removed-more heads c.self.inside.changes.items c.and-self-inside.result.items id c.and-self-inside.ensures)
          (linked-unlinked lists c.self.inside.nodes c.cut.new.nodes c.remove.new.self heads id c.self.invariant.linked
          (listed-in id lists c.args.self.now.lists is c.requires) c.cut.ensures c.remove.ensures.updates);
      count = omega (arith, c.remove.ensures.len, c.cut.ensures.rest.len, c.self.invariant.count);
      fits = omega (arith, c.remove.ensures.capacity, c.cut.ensures.rest.capacity, c.self.invariant.fits);
    }

pub returns-clause-removed : goal.returns-clause-removed
returns-clause-removed c =
    let heads = c.self.inside.heads.items in
    removed-more heads c.self.inside.changes.items c.and-self-inside.result.items c.args.id c.and-self-inside.ensures
    ∙ ap (λ (v : IdLists). without c.args.id v.lists) c.self.view_is

pub returns-clause-apart : goal.returns-clause-apart
returns-clause-apart c = (invariant_of-self c).linked.apart
