use Rattle.turn_journal.proofs.LoadLaws.{loaded, loaded_ready}
use Rattle.turn_journal.proofs.load.load_on.Goals as goal

pub returns-in-Ok-clause-ok : goal.returns-in-Ok-clause-ok
returns-in-Ok-clause-ok g c =
    loaded (λ loaded. loaded.0) (λ loaded. loaded.1) c.journal_in.result
    (g.D.Disk.report c.args.disk.now).past c.in-Ok.bytes.items c.in-Ok.ensures.bytes c.journal_in.ensures.found

pub returns-in-Ok-clause-ready : goal.returns-in-Ok-clause-ready
returns-in-Ok-clause-ready g c =
    loaded_ready (λ loaded. loaded.0) (λ loaded. loaded.1) c.journal_in.result (g.D.Disk.report c.args.disk.now).past
    (g.D.Disk.report c.read_file.new.disk).past c.in-Ok.bytes.items c.in-Ok.ensures.synced c.in-Ok.ensures.bytes
    c.journal_in.ensures.found
