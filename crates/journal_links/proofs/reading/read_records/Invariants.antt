use Rattle.std.proofs.Common.{◌≡◌, true, List, length}
use Rattle.std.specs.List.{list_all}
use Rattle.journal_format.specs.declared.turn_record.TurnRecord.{TurnRecord}
use Rattle.journal_links.specs.Reading.{AreLeft, EndWith, has_event}
use Rattle.journal_links.proofs.reading.read_records.Given as goal

abbrev pub invariant-records : goal.invariant-records
invariant-records l =
    ((all : List TurnRecord) → EndWith true all l.bytes → AreLeft all l.records l.rest)
    × (list_all has_event l.records ≡ true)

abbrev pub decreases-records : goal.decreases-records
decreases-records l = length l.rest
