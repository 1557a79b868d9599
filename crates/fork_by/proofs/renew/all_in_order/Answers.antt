use Rattle.std.proofs.Common.{sym, ◌∙◌, ap, map, ◌∷◌, []}
use Rattle.std.specs.Map.{values_of}
use Rattle.std.specs.Map.Iter.{deref}
use Rattle.std.proofs.lemmas.List.{map-append}
use Rattle.std.proofs.lemmas.Map.Iter.{iter_end}
use Rattle.fork_by.specs.Order.{put_all, put_one}
use Rattle.fork_by.specs.Slots.{slot_at}
use Rattle.fork_by.proofs.OrderLaws.{put-more}
use Rattle.fork_by.proofs.renew.all_in_order.Goals as goal

pub loop-number-preserved : goal.loop-number-preserved
loop-number-preserved c =
    c.in_ok-put.ensures
    ∙ ap (λ entries. put_one entries (slot_at c.in-Some.number.now c.args.slots.now.items) c.in-Some.number.now)
    c.loop-number.invariant
    ∙ sym (put-more c.args.slots.now.items [] (map deref c.loop-number.yielded) c.in-Some.number.now)
    ∙ ap (put_all c.args.slots.now.items []) (sym (map-append deref c.loop-number.yielded (c.in-Some.number ∷ [])))

pub returns : goal.returns
returns c =
    c.loop-number.invariant
    ∙ ap (put_all c.args.slots.now.items [])
    (iter_end deref (values_of c.args.keys.now.entries) c.loop-number.yielded _ _ _ _
    (c.into_iter-number-iterator.ensures.into_iter_gives ∙ c.values-number-items.ensures.rest) c.loop-number.yielded_by
    c.in-None.is c.next.ensures.steps).0
