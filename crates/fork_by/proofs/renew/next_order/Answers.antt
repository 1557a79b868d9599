use Rattle.fork_by.proofs.RenewLaws.{renews}
use Rattle.fork_by.proofs.renew.next_order.Goals as goal

pub returns-clause-renews : goal.returns-clause-renews
returns-clause-renews c numbers ordered =
    renews c.args.slots.now.items c.renew.new.slots.items c.args.keys.now.entries c.args.next numbers
    c.in_ok-map.map.entries c.in_ok-numbers.numbers.items c.renew.result ordered
    c.in_ok-map.ensures c.in_ok-numbers.ensures c.renew.ensures.slots c.renew.ensures.next
