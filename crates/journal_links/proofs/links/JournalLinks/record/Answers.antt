use Rattle.std.proofs.Common.{◌≡◌, Option, subst, sym, rules}
use Rattle.disk_port.specs.Past.{Past}
use Rattle.turn_journal.specs.Beginning.{HoldsBlankOrFree, LeavesAfterSync}
use Rattle.turn_journal.proofs.AppendLaws.{ready_within}
use Rattle.journal_links.proofs.links.JournalLinks.record.Goals as goal

pub over-journal-requires : goal.over-journal-requires
over-journal-requires g c =
    ready_within (g.D.Disk.report c.begin_on.new.disk).past c.in-Ok.found.gate c.in-Ok.found.has_record
    c.in-Ok.ensures.ready

pub returns-clause-any_moment : goal.returns-clause-any_moment
returns-clause-any_moment g c =
    let same : (g.D.Disk.report c.over-links.result.recorded.recorder.journal.disk.now).past
    ≡ (g.D.Disk.report c.begin_on.new.disk).past = search rules in
    λ past is.
    subst (λ (new : Option Past). LeavesAfterSync past new (HoldsBlankOrFree c.args.config.now)) (sym same)
    (c.in-Ok.ensures.any_moment past is (c.in-Ok.ensures.free past is))
