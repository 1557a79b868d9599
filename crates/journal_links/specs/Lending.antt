-- What is lent to links that resume a run.
use Rattle.std.specs.Prelude.{List, []}
use Rattle.journal_format.specs.declared.turn_record.TurnRecord.{TurnRecord}
use Rattle.recorded_links.specs.Lending.{Lent, nothing_lent}

-- links and a disk when they were lent, and the records of the journal
pub record LentJournal : Type 0 where
  pub lent : Lent
  pub records : List TurnRecord

abbrev pub no_journal : LentJournal
no_journal = record { lent = nothing_lent; records = [] }
