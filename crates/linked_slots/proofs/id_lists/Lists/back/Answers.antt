use Rattle.std.proofs.Common.{◌≡◌, ◌<◌, ap, ◌∙◌, length}
use Rattle.linked_slots.specs.IdLists.{IdLists, list_at, last_of}
use Rattle.linked_slots.specs.Nodes.{id_of, kind_at, previous_at, lists_after}
use Rattle.linked_slots.proofs.LinkLaws.{last-is, head-is, number-in}
use Rattle.linked_slots.proofs.id_lists.Lists.back.Goals as goal

pub returns-clause-back : goal.returns-clause-back
returns-clause-back c =
    let list = c.args.list in
    let slots = c.self.inside.nodes.slots in
    let heads = c.self.inside.heads.items in
    let lists = lists_after heads c.self.inside.changes.items in
    let is : lists ≡ c.args.self.now.lists = ap (λ (v : IdLists). v.lists) c.self.view_is in
    let within : list < length lists = number-in list lists c.args.self.now.lists is c.requires in
    c.id_before.ensures
    ∙ ap (λ x. id_of (kind_at slots (previous_at slots x)) (previous_at slots x))
    (head-is heads lists list c.index.result.now c.self.invariant.linked.count within c.index.ensures)
    ∙ last-is lists slots heads c.self.invariant.linked list within
    ∙ ap (λ x. last_of (list_at x list)) is
