use Rattle.std.proofs.Common.{[], List, Option, length, replicate, sym, subst, ap}
use Rattle.slab.specs.Slab.{Slab}
use Rattle.linked_slots.specs.Nodes.{IsLinked}
use Rattle.linked_slots.specs.declared.nodes.Node.{Node}
use Rattle.linked_slots.proofs.LinkLaws.{linked-headed}
use Rattle.linked_slots.proofs.id_lists.add_head.Goals as goal

pub returns-clause-linked : goal.returns-clause-linked
returns-clause-linked c linked =
    let heads = c.args.heads.now.items in
    let P : List (Option Node) → Type 0 = λ slots. IsLinked (replicate (length heads) []) slots heads in
    rw c.in_ok-push.ensures.items
    (linked-headed c.reserve.new.self c.add_node.new.nodes heads c.add_node.result
    (subst P (sym (ap (λ (s : Slab Node). s.slots) c.reserve.ensures.rest_kept)) linked) c.add_node.ensures)
