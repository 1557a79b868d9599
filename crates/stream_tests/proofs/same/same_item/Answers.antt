use Rattle.stream_tests.proofs.SameLaws.{one_decides, many_decides}
use Rattle.stream_tests.proofs.same.same_item.Goals as goal

pub returns-in-One-One-clause-same : goal.returns-in-One-One-clause-same
returns-in-One-One-clause-same c =
    one_decides c.args.a.now c.args.b.now c.in-One-One.a c.in-One-One.b c.same_event.result c.in-One-One.is-0
    c.in-One-One.is-1 c.same_event.ensures

pub returns-in-Many-Many-clause-same : goal.returns-in-Many-Many-clause-same
returns-in-Many-Many-clause-same c =
    many_decides c.args.a.now c.args.b.now c.in-Many-Many.a c.in-Many-Many.b c.as_slice.result.now
    c.as_slice-in-Many-Many.result.now c.same_events.result c.in-Many-Many.is-0 c.in-Many-Many.is-1
    c.as_slice.ensures c.as_slice-in-Many-Many.ensures c.same_events.ensures
