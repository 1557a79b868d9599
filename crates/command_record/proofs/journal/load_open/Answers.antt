use Rattle.std.proofs.Common.{◌≡◌, ◌+◌, ◌≤◌, false, rules}
use Rattle.journal_format.specs.Limits.{config_limit}
use Rattle.turn_journal.specs.Standing.{IsReady}
use Rattle.command_record.proofs.OpeningLaws.{of_end, on_ok, read_cause, read_resumes, read_unrefused}
use Rattle.command_record.proofs.journal.load_open.Goals as goal

pub returns-clause-loaded : goal.returns-clause-loaded
returns-clause-loaded g c =
    let same : c.as_slice.result.now ≡ c.in-Ok.loaded.1 = search rules in
    read_resumes (g.D.Disk.report c.args.disk.now).past c.in-Ok.loaded.0 c.in-Ok.loaded.1 c.read_loaded.result
    c.in-Ok.ensures.ok c.read_loaded.ensures.found (rw same at c.read_loaded.ensures.read)

pub returns-clause-refused : goal.returns-clause-refused
returns-clause-refused g c =
    let same : c.as_slice.result.now ≡ c.in-Ok.loaded.1 = search rules in
    read_unrefused (g.D.Disk.report c.args.disk.now).past c.in-Ok.loaded.0 c.in-Ok.loaded.1 c.read_loaded.result
    c.in-Ok.ensures.ok (rw same at c.read_loaded.ensures.read)

pub returns-clause-cause : goal.returns-clause-cause
returns-clause-cause g c = read_cause _ _ c.read_loaded.result c.in-Ok.ensures.cause c.read_loaded.ensures.no_disk

pub returns-clause-ready : goal.returns-clause-ready
returns-clause-ready g c =
    of_end (λ found. IsReady (g.D.Disk.report c.load_on.new.disk).past found.gate found.has_record) c.in-Ok.loaded.0
    c.read_loaded.result c.read_loaded.ensures.found c.in-Ok.ensures.ready

pub returns-clause-blank : goal.returns-clause-blank
returns-clause-blank g c =
    of_end (λ found. found.has_record ≡ false → found.gate ≤ config_limit + 5) c.in-Ok.loaded.0 c.read_loaded.result
    c.read_loaded.ensures.found c.in-Ok.ensures.blank

pub returns-clause-synced : goal.returns-clause-synced
returns-clause-synced g c = on_ok c.read_loaded.result c.in-Ok.ensures.synced
