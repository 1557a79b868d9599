use Rattle.fork_by.proofs.AddedLaws.{kept-nothing}
use Rattle.fork_by.proofs.register.Register.fresh.Goals as goal

pub invariant_of-result : goal.invariant_of-result
invariant_of-result c =
    kept-nothing c.new.result.entries c.new-2.result.items c.in_ok-moments.moments.lists c.fresh-2.result
    c.new-3.result.items
    c.new.ensures.empty c.new-2.ensures.items c.in_ok-moments.ensures c.fresh-2.ensures c.new-3.ensures
