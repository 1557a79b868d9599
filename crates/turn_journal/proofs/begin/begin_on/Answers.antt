use Rattle.turn_journal.proofs.BeginLaws.{synced_first, synced_free, synced_ok, synced_only, synced_or_not}
use Rattle.turn_journal.proofs.BeginLaws.{synced_unwritten, synced_why}
use Rattle.turn_journal.proofs.begin.begin_on.Goals as goal

pub begin_in-requires-clause-first : goal.begin_in-requires-clause-first
begin_in-requires-clause-first g c =
    synced_first (g.D.Disk.report c.args.disk.now).past
    (g.D.Disk.report c.look_at.new.disk).past c.in-Ok.first c.in-Ok.ensures.synced c.in-Ok.ensures.first

pub returns-in-Ok-clause-ok : goal.returns-in-Ok-clause-ok
returns-in-Ok-clause-ok g c =
    synced_ok c.args.config.now (g.D.Disk.report c.args.disk.now).past (g.D.Disk.report c.look_at.new.disk).past
    (g.D.Disk.report c.begin_in.new.disk).past c.in-Ok.ensures.synced c.begin_in.result c.begin_in.ensures.ok

pub returns-in-Ok-clause-free : goal.returns-in-Ok-clause-free
returns-in-Ok-clause-free g c =
    synced_free c.args.config.now (g.D.Disk.report c.args.disk.now).past (g.D.Disk.report c.look_at.new.disk).past
    (g.D.Disk.report c.begin_in.new.disk).past c.in-Ok.ensures.synced c.begin_in.result c.begin_in.ensures.free

pub returns-in-Ok-clause-refused : goal.returns-in-Ok-clause-refused
returns-in-Ok-clause-refused g c =
    synced_why c.args.config.now (g.D.Disk.report c.args.disk.now).past (g.D.Disk.report c.look_at.new.disk).past
    (g.D.Disk.report c.begin_in.new.disk).past c.in-Ok.ensures.synced c.begin_in.result c.begin_in.ensures.refused

pub returns-in-Ok-clause-unwritten : goal.returns-in-Ok-clause-unwritten
returns-in-Ok-clause-unwritten g c =
    synced_unwritten c.args.config.now (g.D.Disk.report c.args.disk.now).past (g.D.Disk.report c.look_at.new.disk).past
    (g.D.Disk.report c.begin_in.new.disk).past c.in-Ok.ensures.synced c.begin_in.ensures.unwritten

pub returns-in-Ok-clause-any_moment : goal.returns-in-Ok-clause-any_moment
returns-in-Ok-clause-any_moment g c =
    synced_only c.args.config.now (g.D.Disk.report c.args.disk.now).past (g.D.Disk.report c.look_at.new.disk).past
    (g.D.Disk.report c.begin_in.new.disk).past c.in-Ok.ensures.synced c.begin_in.ensures.any_moment

pub returns-in-Err-clause-any_moment : goal.returns-in-Err-clause-any_moment
returns-in-Err-clause-any_moment g c =
    synced_or_not c.args.config.now (g.D.Disk.report c.args.disk.now).past
    (g.D.Disk.report c.look_at.new.disk).past c.in-Err.ensures.any_moment
