use Rattle.std.proofs.Common.{◌≡◌, ◌<◌, ap, ◌∙◌, length}
use Rattle.linked_slots.specs.IdLists.{IdLists, list_at, first_of}
use Rattle.linked_slots.specs.Nodes.{id_of, kind_at, next_at, lists_after}
use Rattle.linked_slots.proofs.LinkLaws.{first-is, head-is, number-in}
use Rattle.linked_slots.proofs.id_lists.Lists.front.Goals as goal

pub returns-clause-front : goal.returns-clause-front
returns-clause-front c =
    let list = c.args.list in
    let slots = c.self.inside.nodes.slots in
    let heads = c.self.inside.heads.items in
    let lists = lists_after heads c.self.inside.changes.items in
    let is : lists ≡ c.args.self.now.lists = ap (λ (v : IdLists). v.lists) c.self.view_is in
    let within : list < length lists = number-in list lists c.args.self.now.lists is c.requires in
    c.id_after.ensures
    ∙ ap (λ x. id_of (kind_at slots (next_at slots x)) (next_at slots x))
    (head-is heads lists list c.index.result.now c.self.invariant.linked.count within c.index.ensures)
    ∙ first-is lists slots heads c.self.invariant.linked list within
    ∙ ap (λ x. first_of (list_at x list)) is
