use Rattle.command_record.proofs.OpeningLaws.{begins_open, not_begun}
use Rattle.command_record.proofs.journal.begin_in.Goals as goal

pub returns-in-Ok-clause-begins : goal.returns-in-Ok-clause-begins
returns-in-Ok-clause-begins g c =
    begins_open c.args.name.now c.args.config.now (g.D.Disk.report c.args.disk.now) (g.D.Disk.report c.create.new.self)
    (g.D.Disk.report c.begin_on.new.disk) c.begin_on.result
    c.in-Ok.ensures.past c.in-Ok.ensures.opened c.in-Ok.ensures.cause c.begin_on.ensures.opened c.begin_on.ensures.cause
    c.begin_on.ensures.ok c.begin_on.ensures.free
    c.begin_on.ensures.refused c.begin_on.ensures.unwritten c.begin_on.ensures.any_moment

pub returns-in-Err-clause-begins : goal.returns-in-Err-clause-begins
returns-in-Err-clause-begins g c =
    rw c.from.ensures (not_begun c.args.name.now c.args.config.now (g.D.Disk.report c.args.disk.now)
    (g.D.Disk.report c.create.new.self) c.in-Err.error
    c.in-Err.ensures.past c.in-Err.ensures.opened c.in-Err.ensures.cause)
