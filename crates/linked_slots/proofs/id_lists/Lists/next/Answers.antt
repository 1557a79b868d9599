use Rattle.std.proofs.Common.{◌≡◌, ◌<◌, ap, ◌∙◌}
use Rattle.linked_slots.specs.IdLists.{IdLists, list_at, times_in, following}
use Rattle.linked_slots.specs.Nodes.{lists_after}
use Rattle.linked_slots.proofs.LinkLaws.{following-is}
use Rattle.linked_slots.proofs.id_lists.Lists.next.Goals as goal

pub returns-clause-next : goal.returns-clause-next
returns-clause-next c list h =
    let id = c.args.id in
    let heads = c.self.inside.heads.items in
    let lists = lists_after heads c.self.inside.changes.items in
    let is : lists ≡ c.args.self.now.lists = ap (λ (v : IdLists). v.lists) c.self.view_is in
    let has : 0 < times_in id (list_at lists list) = rw is h in
    c.id_after.ensures ∙ following-is lists c.self.inside.nodes.slots heads c.self.invariant.linked id list has
    ∙ ap (λ x. following id (list_at x list)) is
