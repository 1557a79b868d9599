use Rattle.journal_format.specs.Limits.{journal_limit}
use Rattle.turn_journal.proofs.LoadLaws.{synced_bytes}
use Rattle.turn_journal.proofs.load.read_file.Goals as goal

pub returns-in-Ok-clause-bytes : goal.returns-in-Ok-clause-bytes
returns-in-Ok-clause-bytes g c =
    synced_bytes (λ bytes. bytes.items) c.read_front.result (g.D.Disk.report c.args.disk.now).past
    (g.D.Disk.report c.sync.new.self).past journal_limit c.in-Ok.ensures.done c.read_front.ensures.bytes
