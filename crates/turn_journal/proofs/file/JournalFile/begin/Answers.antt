use Rattle.std.proofs.Common.{◌≡◌, Option, subst, sym}
use Rattle.disk_port.specs.Past.{Past}
use Rattle.turn_journal.specs.Beginning.{HoldsBlankOrFree, LeavesAfterSync}
use Rattle.turn_journal.proofs.AppendLaws.{ready_within}
use Rattle.turn_journal.proofs.file.JournalFile.begin.Goals as goal

pub over-file-requires : goal.over-file-requires
over-file-requires g c =
    ready_within (g.D.Disk.report c.begin_on.new.disk).past c.in-Ok.found.gate c.in-Ok.found.has_record
    c.in-Ok.ensures.ready

pub returns-in-Ok-clause-any_moment : goal.returns-in-Ok-clause-any_moment
returns-in-Ok-clause-any_moment g c =
    let same : (g.D.Disk.report c.over-file.result.disk.now).past ≡ (g.D.Disk.report c.begin_on.new.disk).past = cc in
    λ past is. subst (λ (new : Option Past). LeavesAfterSync past new (HoldsBlankOrFree c.args.config.now)) (sym same)
    (c.in-Ok.ensures.any_moment past is (c.in-Ok.ensures.free past is))
