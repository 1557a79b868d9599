use Rattle.std.proofs.Common.{◌≡◌, ◌<◌, get_or, length, rules}
use Rattle.fork_by.proofs.RenewLaws.{renewed-step}
use Rattle.fork_by.proofs.renew.renew.Goals as goal

pub loop-i-preserved : goal.loop-i-preserved
loop-i-preserved c =
    let within : c.loop-i.i < length c.args.numbers.now.items =
    search (rules, c.loop-i-test.true, c.len-i-end.ensures) in
    let at : c.index.result.now ≡ get_or c.args.numbers.now.items c.loop-i.i c.index.result.now = c.index.ensures in
    renewed-step c.args.slots.now.items c.loop-i.slots.items c.set_order.new.slots.items c.args.numbers.now.items
    c.loop-i.i c.index.result.now
    within at c.set_order.ensures c.loop-i.invariant
