use Rattle.std.proofs.Common.{◌≡◌, List, ℕ, ap, sym, ◌∙◌, subst, rules}
use Rattle.disk_port.specs.Past.{text_of}
use Rattle.journal_format.specs.declared.turn_record.TurnRecord.{TurnRecord}
use Rattle.journal_links.proofs.ResumeLaws.{loaded_whole, never_refused, resumes}
use Rattle.turn_journal.proofs.AppendLaws.{ready_within}
use Rattle.journal_links.specs.Reading.{IsWhole}
use Rattle.journal_links.proofs.links.JournalLinks.resume.Goals as goal

pub over-journal-requires : goal.over-journal-requires
over-journal-requires g c =
    ready_within (g.D.Disk.report c.load_on.new.disk).past c.in-Ok.loaded.0.gate c.in-Ok.loaded.0.has_record
    c.in-Ok.ensures.ready

pub returns-in-Err-read_journal-clause-refused : goal.returns-in-Err-read_journal-clause-refused
returns-in-Err-read_journal-clause-refused g c = λ past is.
    let at = c.in-Ok.ensures.ok past is in
    let same : c.as_slice.result.now ≡ c.in-Ok.loaded.1 = search rules in
    let whole = subst (IsWhole at.journal) (sym same) (loaded_whole past c.in-Ok.loaded.0 c.in-Ok.loaded.1 at) in
    let wanted : List ℕ × List TurnRecord = (at.journal.config, at.journal.records) in
    never_refused wanted c.in-Err-read_journal.fault (text_of past)
    (c.in-Err-read_journal.ensures.read at.journal whole)

pub returns-clause-resumed : goal.returns-clause-resumed
returns-clause-resumed g c =
    let links = c.over-links.result in
    let gate : links.recorded.recorder.journal.gate ≡ c.in-Ok.loaded.0.gate = search rules in
    let has : links.recorded.recorder.journal.has_record ≡ c.in-Ok.loaded.0.has_record = search rules in
    let config_is : links.config.now ≡ c.in-Ok-read_journal.read.0 = search rules in
    let records_are : links.replay.now.records ≡ c.in-Ok-read_journal.read.1 = search rules in
    λ past is.
    let at = c.in-Ok.ensures.ok past is in
    let same : c.as_slice.result.now ≡ c.in-Ok.loaded.1 = search rules in
    let whole = subst (IsWhole at.journal) (sym same) (loaded_whole past c.in-Ok.loaded.0 c.in-Ok.loaded.1 at) in
    let read = c.in-Ok-read_journal.ensures.read at.journal whole in
    resumes past c.in-Ok.loaded.0.gate links.recorded.recorder.journal.gate c.in-Ok.loaded.0.has_record
    links.recorded.recorder.journal.has_record c.in-Ok.loaded.1 links.config.now links.replay.now.records at gate has
    (config_is ∙ ap (λ (pair : List ℕ × List TurnRecord). pair.0) read)
    (records_are ∙ ap (λ (pair : List ℕ × List TurnRecord). pair.1) read)
