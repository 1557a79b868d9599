-- A run whose turns are recorded in the file of a name.
use Rattle.std.specs.Prelude.{◌≡◌, ◌≢◌, ℕ, ◌⊎◌, List, Result, Ok, Err}
use Rattle.command_setup.specs.command_io.declared.ending.Ending.TheVariants.{WriteFailed, LinksFailed}
use Rattle.command_setup.specs.conn_core.declared.hub.Hub.{Hub}
use Rattle.command_setup.specs.hub_run.Runs.{RunReport}
use Rattle.command_setup.specs.hub_run.declared.setup.Setup.{Setup}
use Rattle.disk_port.specs.Calls.{DiskReport}
use Rattle.journal_format.specs.declared.finder.Found.{Found}
use Rattle.journal_run.specs.Recorded.{RunsRecorded}
use Rattle.journal_run.specs.declared.fault.JournalRunFault.{JournalRunFault}
use Rattle.ports.specs.Calls.{LinksReport}
use Rattle.ports.specs.Counts.{Rose, greatest}
use Rattle.turn_journal.specs.declared.fault.JournalFault.{JournalFault}
use Rattle.command_record.specs.Endings.{ending_of_fault, ending_of_run}
use Rattle.command_record.specs.Opening.{BeginsJournal}
use Rattle.command_record.specs.declared.ending.JournalEnding.{JournalEnding}
use Rattle.command_record.specs.declared.ending.JournalEnding.TheVariants.{Shared, DiskFailed}

-- no journal was begun in the file of the name, and no server was run
pub record IsUnbegun (name text : List ℕ) (links links' : LinksReport) (disk disk' : DiskReport) (old new : RunReport)
    (ending : JournalEnding) : Type 0 where
  pub fault : JournalFault
  pub ended : ending ≡ ending_of_fault fault
  pub begins : BeginsJournal name text disk disk' (Err fault)
  pub uncalled : links' ≡ links
  pub same : new ≡ old

-- A journal of the configuration was begun in the file of the name. Then its server was run, and the turns recorded in
-- the journal.
pub record IsRecorded (name text : List ℕ) (setup : Setup) (links links' : LinksReport) (disk disk' : DiskReport)
    (old new : RunReport) (ending : JournalEnding) : Type 0 where
  pub found : Found
  -- what the disk reports once the journal is begun
  pub begun_disk : DiskReport
  pub begins : BeginsJournal name text disk begun_disk (Ok found)
  pub once : disk'.opened ≡ begun_disk.opened
  pub result : Result Hub JournalRunFault
  pub ended : ending ≡ ending_of_run result
  pub runs : RunsRecorded setup greatest found links links' begun_disk disk' old new result

abbrev pub RecordingEnds : List ℕ → List ℕ → Setup → LinksReport → LinksReport → DiskReport → DiskReport → RunReport
    → RunReport → JournalEnding → Type 0
RecordingEnds name text setup links links' disk disk' old new ending =
    IsUnbegun name text links links' disk disk' old new ending
    ⊎ IsRecorded name text setup links links' disk disk' old new ending

-- What failed, as the ending says, from the counts of faults of links, output and disk. After a fault of the disk
-- nothing is said of the links.
pub record HasCauses (links links' out out' disk disk' : ℕ) (ending : JournalEnding) : Type 0 where
  pub links_failed : ending ≡ Shared LinksFailed → Rose links links'
  pub links_work : ending ≢ Shared LinksFailed → ending ≢ DiskFailed → links' ≡ links
  pub out_failed : ending ≡ Shared WriteFailed → Rose out out'
  pub out_works : ending ≢ Shared WriteFailed → out' ≡ out
  pub disk_failed : ending ≡ DiskFailed → Rose disk disk'
  pub disk_works : ending ≢ DiskFailed → disk' ≡ disk
