use Rattle.turn_journal.proofs.BeginLaws.{unsynced_first}
use Rattle.turn_journal.proofs.begin.look_at.Goals as goal

pub returns-in-Ok-clause-first : goal.returns-in-Ok-clause-first
returns-in-Ok-clause-first g c =
    unsynced_first c.first_of.result (g.D.Disk.report c.args.disk.now).past
    (g.D.Disk.report c.sync.new.self).past c.in-Ok.ensures.done c.first_of.ensures.first
