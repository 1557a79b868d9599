use Rattle.std.proofs.Common.{arith, ◌≡◌, ◌<◌, length, false, ap, ◌∙◌}
use Rattle.linked_slots.specs.IdLists.{IdLists, append_to}
use Rattle.linked_slots.specs.Nodes.{head_at, lists_after}
use Rattle.linked_slots.proofs.LinkLaws.{linked-inserted, mutual-added, number-in, head-is, tied-to, appended-more}
use Rattle.linked_slots.proofs.id_lists.Lists.insert.Goals as goal

pub tie-requires-clause-linked : goal.tie-requires-clause-linked
tie-requires-clause-linked c =
    mutual-added c.self.inside.nodes c.add_node-id.new.nodes c.add_node-id.result false
    c.self.invariant.linked.mutual_links c.add_node-id.ensures

pub invariant_of-self : goal.invariant_of-self
invariant_of-self c =
    let list = c.args.list in
    let id = c.add_node-id.result in
    let heads = c.self.inside.heads.items in
    let lists = lists_after heads c.self.inside.changes.items in
    let is : lists ≡ c.args.self.now.lists = ap (λ (v : IdLists). v.lists) c.self.view_is in
    let within : list < length lists = number-in list lists c.args.self.now.lists is c.requires.list in
    let head : c.index.result.now ≡ head_at heads list =
    head-is heads lists list c.index.result.now c.self.invariant.linked.count within c.index.ensures in
    record {
      linked =
          rw (appended-more heads c.self.inside.changes.items c.and-self-inside.result.items list id
          c.and-self-inside.ensures)
          (linked-inserted lists c.self.inside.nodes c.add_node-id.new.nodes c.tie.new.nodes heads list id
          c.self.invariant.linked within c.add_node-id.ensures
          (tied-to c.add_node-id.new.nodes c.tie.new.nodes id c.index.result.now (head_at heads list) head
          c.tie.ensures));
      count =
          omega (
            arith,
            c.tie.ensures.rest.len,
            c.add_node-id.ensures.len,
            c.requires.spare,
            ap (λ (v : IdLists). v.spare) c.self.view_is,
          );
      fits = omega (arith, c.tie.ensures.rest.capacity, c.add_node-id.ensures.capacity, c.self.invariant.fits);
    }

pub returns-clause-appended : goal.returns-clause-appended
returns-clause-appended c =
    appended-more c.self.inside.heads.items c.self.inside.changes.items c.and-self-inside.result.items c.args.list
    c.add_node-id.result c.and-self-inside.ensures
    ∙ ap (λ (v : IdLists). append_to c.args.list c.add_node-id.result v.lists) c.self.view_is

pub returns-clause-apart : goal.returns-clause-apart
returns-clause-apart c = (invariant_of-self c).linked.apart
