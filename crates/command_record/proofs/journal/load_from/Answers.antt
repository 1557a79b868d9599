use Rattle.command_record.proofs.OpeningLaws.{loads_open, not_loaded}
use Rattle.command_record.proofs.journal.load_from.Goals as goal

pub returns-in-Ok-clause-loads : goal.returns-in-Ok-clause-loads
returns-in-Ok-clause-loads g c =
    loads_open c.args.name.now (g.D.Disk.report c.args.disk.now) (g.D.Disk.report c.open.new.self)
    (g.D.Disk.report c.load_open.new.disk) c.load_open.result
    c.in-Ok.ensures.past c.in-Ok.ensures.opened c.in-Ok.ensures.cause c.load_open.ensures.opened
    c.load_open.ensures.cause c.load_open.ensures.loaded c.load_open.ensures.synced
    c.load_open.ensures.refused c.load_open.ensures.unwritten

pub returns-in-Err-clause-loads : goal.returns-in-Err-clause-loads
returns-in-Err-clause-loads g c =
    rw c.from.ensures
    (not_loaded c.args.name.now (g.D.Disk.report c.args.disk.now) (g.D.Disk.report c.open.new.self) c.in-Err.error
    c.in-Err.ensures.past c.in-Err.ensures.opened c.in-Err.ensures.cause)
