use Rattle.std.proofs.Common.{List, ℕ, true, subst, sym}
use Rattle.journal_format.specs.declared.turn_record.TurnRecord.{TurnRecord}
use Rattle.journal_links.specs.Reading.{EndWith, IsOrMemory}
use Rattle.journal_links.proofs.ReadLaws.{whole_parts}
use Rattle.journal_links.proofs.reading.read_journal.Goals as goal

pub returns-in-Some-clause-read : goal.returns-in-Some-clause-read
returns-in-Some-clause-read c = λ journal is.
    let parts = whole_parts journal c.args.bytes.now is in
    let pair = c.in-Some.ensures journal.config parts.more parts.heads in
    subst (λ (config : List ℕ). let wanted : List ℕ × List TurnRecord = (config, journal.records) in
    IsOrMemory wanted c.read_parts.result) pair.0
    (c.read_parts.ensures.read journal.records (subst (EndWith true journal.records) (sym pair.1) parts.end_with))

pub returns-in-None-clause-read : goal.returns-in-None-clause-read
returns-in-None-clause-read c = λ journal is.
    let parts = whole_parts journal c.args.bytes.now is in
    c.in-None.ensures journal.config parts.more parts.heads
