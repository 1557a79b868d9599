use Rattle.turn_journal.proofs.AppendLaws.{ready_within}
use Rattle.turn_journal.proofs.LoadLaws.{same_found}
use Rattle.turn_journal.proofs.file.JournalFile.load.Goals as goal

pub returns-in-Ok-clause-ok : goal.returns-in-Ok-clause-ok
returns-in-Ok-clause-ok g c =
    same_found (g.D.Disk.report c.args.disk.now).past c.in-Ok.found c.over-file.result.gate
    c.over-file.result.has_record c.in-Ok.text c.over-file.ensures.gate c.over-file.ensures.has_record
    c.in-Ok.ensures.ok

pub over-file-requires : goal.over-file-requires
over-file-requires g c =
    ready_within (g.D.Disk.report c.load_on.new.disk).past c.in-Ok.found.gate c.in-Ok.found.has_record
    c.in-Ok.ensures.ready
