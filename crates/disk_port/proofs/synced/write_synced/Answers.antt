use Rattle.std.proofs.Common.{length}
use Rattle.disk_port.proofs.PastLaws.{calls_possible, failed_tears, sync_possible, sync_tears}
use Rattle.disk_port.proofs.synced.write_synced.Goals as goal

pub returns-in-Ok-clause-any_moment : goal.returns-in-Ok-clause-any_moment
returns-in-Ok-clause-any_moment g c =
    sync_tears c.args.place c.args.bytes.now (g.D.Disk.report c.args.disk.now).past
    (g.D.Disk.report c.write_at.new.self).past (g.D.Disk.report c.sync.new.self).past c.sync.result
    c.requires c.in-Ok.ensures.done c.sync.ensures.done c.sync.ensures.failed

pub returns-in-Err-clause-any_moment : goal.returns-in-Err-clause-any_moment
returns-in-Err-clause-any_moment g c =
    failed_tears c.args.place (length c.args.bytes.now) (g.D.Disk.report c.args.disk.now).past
    (g.D.Disk.report c.write_at.new.self).past c.in-Err.ensures.failed

pub returns-in-Ok-clause-possible : goal.returns-in-Ok-clause-possible
returns-in-Ok-clause-possible g c = λ possible.
    sync_possible c.args.place c.args.bytes.now (g.D.Disk.report c.args.disk.now).past
    (g.D.Disk.report c.write_at.new.self).past (g.D.Disk.report c.sync.new.self).past c.sync.result
    c.requires c.in-Ok.ensures.done c.sync.ensures.done c.sync.ensures.failed possible

pub returns-in-Err-clause-possible : goal.returns-in-Err-clause-possible
returns-in-Err-clause-possible g c = λ possible.
    calls_possible.failed_write (g.D.Disk.report c.args.disk.now).past
    (g.D.Disk.report c.write_at.new.self).past c.args.place (length c.args.bytes.now) possible c.in-Err.ensures.failed
