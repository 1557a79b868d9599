use Rattle.std.proofs.Common.{arith, ◌≡◌, ◌<◌, length, ap, ◌∙◌}
use Rattle.linked_slots.specs.IdLists.{IdLists, IsListed, append_to, without}
use Rattle.linked_slots.specs.Nodes.{head_at, lists_after}
use Rattle.linked_slots.proofs.LinkLaws.{linked-cut, linked-moved, number-in, listed-in, head-is, tied-to}
use Rattle.linked_slots.proofs.LinkLaws.{appended-more, removed-more}
use Rattle.linked_slots.proofs.id_lists.Lists.move_back.Goals as goal

pub tie-requires-clause-linked : goal.tie-requires-clause-linked
tie-requires-clause-linked c =
    let id = c.args.id in
    let heads = c.self.inside.heads.items in
    let lists = lists_after heads c.self.inside.changes.items in
    let is : lists ≡ c.args.self.now.lists = ap (λ (v : IdLists). v.lists) c.self.view_is in
    (linked-cut lists c.self.inside.nodes c.cut.new.nodes heads id c.self.invariant.linked
    (listed-in id lists c.args.self.now.lists is c.requires.id) c.cut.ensures).mutual_links

pub invariant_of-self : goal.invariant_of-self
invariant_of-self c =
    let list = c.args.list in
    let id = c.args.id in
    let heads = c.self.inside.heads.items in
    let changes = c.self.inside.changes.items in
    let lists = lists_after heads changes in
    let is : lists ≡ c.args.self.now.lists = ap (λ (v : IdLists). v.lists) c.self.view_is in
    let within : list < length lists = number-in list lists c.args.self.now.lists is c.requires.list in
    let listed : IsListed id lists = listed-in id lists c.args.self.now.lists is c.requires.id in
    let head : c.index-head.result.now ≡ head_at heads list =
    head-is heads lists list c.index-head.result.now c.self.invariant.linked.count within c.index-head.ensures in
    record {
      linked = rw (
        appended-more heads c.and-self-inside.result.items c.and-self-inside-2.result.items list id
            c.and-self-inside-2.ensures,
        removed-more heads changes c.and-self-inside.result.items id c.and-self-inside.ensures,
      )
          (linked-moved lists c.self.inside.nodes c.cut.new.nodes c.tie.new.nodes heads list id c.self.invariant.linked
          within listed c.cut.ensures
          (tied-to c.cut.new.nodes c.tie.new.nodes id c.index-head.result.now (head_at heads list) head c.tie.ensures));
      count = omega (arith, c.tie.ensures.rest.len, c.cut.ensures.rest.len, c.self.invariant.count);
      fits = omega (arith, c.tie.ensures.rest.capacity, c.cut.ensures.rest.capacity, c.self.invariant.fits);
    }

pub returns-clause-moved : goal.returns-clause-moved
returns-clause-moved c =
    let heads = c.self.inside.heads.items in
    appended-more heads c.and-self-inside.result.items c.and-self-inside-2.result.items c.args.list c.args.id
    c.and-self-inside-2.ensures
    ∙ ap (append_to c.args.list c.args.id)
    (removed-more heads c.self.inside.changes.items c.and-self-inside.result.items c.args.id c.and-self-inside.ensures)
    ∙ ap (λ (v : IdLists). append_to c.args.list c.args.id (without c.args.id v.lists)) c.self.view_is

pub returns-clause-apart : goal.returns-clause-apart
returns-clause-apart c = (invariant_of-self c).linked.apart
