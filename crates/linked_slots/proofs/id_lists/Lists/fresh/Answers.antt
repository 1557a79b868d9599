use Rattle.std.proofs.Common.{◌≡◌, length, arith, refl, ap}
use Rattle.linked_slots.proofs.LinkLaws.{linked-nothing}
use Rattle.linked_slots.proofs.id_lists.Lists.fresh.Goals as goal

pub loop-init : goal.loop-init
loop-init c = record {
  linked =
      linked-nothing c.new-nodes.result.slots c.new-heads.result.items c.new-nodes.ensures.empty
      c.new-heads.ensures.items;
  count = ap length c.new-heads.ensures.items;
}

pub invariant_of-result : goal.invariant_of-result
invariant_of-result c = record {
  linked = rw c.new.ensures c.loop.invariant.linked;
  count = c.capacity-room.ensures.holds_all;
  fits = omega (arith, c.capacity-room.ensures.value);
}

pub returns : goal.returns
returns c =
    let all : length c.loop.heads.items ≡ c.args.lists =
    omega (arith, c.loop.invariant.count, c.loop-test.false, c.loop.auto.counter-end) in
    rw (c.new.ensures, all) refl
