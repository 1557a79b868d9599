-- What links resume of the journal on a disk.
use Rattle.std.specs.Prelude.{◌≡◌, ℕ, List}
use Rattle.disk_port.specs.Past.{Past, synced}
use Rattle.journal_format.specs.Journals.{Journal}
use Rattle.journal_format.specs.declared.finder.Found.{Found}
use Rattle.journal_format.specs.declared.turn_record.TurnRecord.{TurnRecord}
use Rattle.turn_journal.specs.Standing.{Stands}

-- The journal that ends so is on the disk after a sync. Its configuration and its records were read.
pub record Resumes (past : Past) (found : Found) (config : List ℕ) (records : List TurnRecord) : Type 0 where
  pub journal : Journal
  pub stands : Stands (synced past) found.gate found.has_record journal
  pub config_is : config ≡ journal.config
  pub records_are : records ≡ journal.records
