use Rattle.std.proofs.Common.{◌≡◌, List, ℕ, rules}
use Rattle.journal_format.specs.declared.turn_record.TurnRecord.{TurnRecord}
use Rattle.journal_links.proofs.ReadLaws.{pair_is, same_fault}
use Rattle.journal_links.proofs.reading.read_parts.Goals as goal

pub returns-in-Ok-clause-read : goal.returns-in-Ok-clause-read
returns-in-Ok-clause-read c = λ all ends.
    let same : c.in_ok-config.config ≡ c.args.config.now = search rules in
    pair_is c.in_ok-config.config c.args.config.now c.in-Ok.records all same (c.in-Ok.ensures.read all ends)

pub returns-in-Err-clause-read : goal.returns-in-Err-clause-read
returns-in-Err-clause-read c = λ all ends.
    let wanted : List ℕ × List TurnRecord = (c.args.config.now, all) in
    same_fault all wanted c.in-Err.fault (c.in-Err.ensures.read all ends)
