use Rattle.std.proofs.Common.{◌≡◌, [], length, replicate}
use Rattle.linked_slots.specs.Nodes.{IsLinked}
use Rattle.linked_slots.proofs.id_lists.Lists.fresh.Given as goal

abbrev pub invariant-loop : goal.invariant-loop
invariant-loop l = record {
  linked : IsLinked (replicate (length l.heads.items) []) l.nodes.slots l.heads.items;
  count : length l.heads.items ≡ l.counter;
}
