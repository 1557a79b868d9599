use Rattle.std.proofs.Common.{◌≡◌, min, rules}
use Rattle.journal_format.specs.Limits.{journal_limit}
use Rattle.turn_journal.proofs.LoadLaws.{front_bytes}
use Rattle.turn_journal.proofs.load.read_front.Goals as goal

pub returns-in-Ok-clause-bytes : goal.returns-in-Ok-clause-bytes
returns-in-Ok-clause-bytes g c =
    let count : c.min.result ≡ min c.in-Ok.length journal_limit = search rules in
    front_bytes (λ bytes. bytes.items) c.read_first.result (g.D.Disk.report c.args.disk.now).past
    (g.D.Disk.report c.length.new.self).past c.min.result c.in-Ok.length c.in-Ok.ensures.past c.in-Ok.ensures.length
    count c.read_first.ensures.bytes
