-- A run that goes on with the journal in the file of a name.
use Rattle.std.specs.Prelude.{◌≡◌, ◌⊎◌, ℕ, List, Result, Ok, Err}
use Rattle.command_setup.specs.Setups.{RefusesText, SetsUpText}
use Rattle.command_setup.specs.command_io.declared.ending.Ending.{Ending}
use Rattle.command_setup.specs.conn_core.declared.hub.Hub.{Hub}
use Rattle.command_setup.specs.hub_run.Runs.{RunReport}
use Rattle.command_setup.specs.hub_run.declared.setup.Setup.{Setup}
use Rattle.disk_port.specs.Calls.{DiskReport}
use Rattle.journal_run.specs.Resumed.{RunsResumed}
use Rattle.journal_run.specs.declared.fault.JournalRunFault.{JournalRunFault}
use Rattle.ports.specs.Calls.{LinksReport}
use Rattle.ports.specs.Counts.{greatest}
use Rattle.turn_journal.specs.declared.fault.JournalFault.{JournalFault}
use Rattle.command_record.specs.Endings.{ending_of_fault, ending_of_run}
use Rattle.command_record.specs.Opening.{LoadsJournal}
use Rattle.command_record.specs.declared.ending.JournalEnding.{JournalEnding}
use Rattle.command_record.specs.declared.ending.JournalEnding.TheVariants.{Shared}
use Rattle.command_record.specs.declared.journal.Loaded.{Loaded}

-- no journal was loaded from the file of the name, and no server was run
pub record IsUnloaded (name : List ℕ) (links links' : LinksReport) (disk disk' : DiskReport) (old new : RunReport)
    (ending : JournalEnding) : Type 0 where
  pub fault : JournalFault
  pub ended : ending ≡ ending_of_fault fault
  pub loads : LoadsJournal name disk disk' (Err fault)
  pub uncalled : links' ≡ links
  pub same : new ≡ old

-- no server can be run with the configuration of the journal, and none was
pub record IsUnset (config : List ℕ) (links links' : LinksReport) (disk disk' : DiskReport) (old new : RunReport)
    (ending : JournalEnding) : Type 0 where
  pub shared : Ending
  pub ended : ending ≡ Shared shared
  pub refuses : RefusesText config old.patterns new.patterns shared
  pub uncalled : links' ≡ links
  pub unwritten : disk' ≡ disk
  pub forks : new.forks ≡ old.forks
  pub sink : new.sink ≡ old.sink

-- Its server was run: it was given the turns of the journal again, and the turns after them were recorded.
pub record IsResumed (loaded : Loaded) (links links' : LinksReport) (disk disk' : DiskReport) (old new : RunReport)
    (ending : JournalEnding) : Type 0 where
  pub setup : Setup
  pub sets : SetsUpText loaded.config setup
  pub once : disk'.opened ≡ disk.opened
  pub result : Result Hub JournalRunFault
  pub ended : ending ≡ ending_of_run result
  pub runs : RunsResumed setup greatest loaded.found loaded.records links links' disk disk' old new result

abbrev pub GoesOn : Loaded → LinksReport → LinksReport → DiskReport → DiskReport → RunReport → RunReport → JournalEnding
    → Type 0
GoesOn loaded links links' disk disk' old new ending =
    IsUnset loaded.config links links' disk disk' old new ending
    ⊎ IsResumed loaded links links' disk disk' old new ending

-- a journal was loaded from the file of the name, and so ends what was done with it
pub record IsLoadedFrom (name : List ℕ) (links links' : LinksReport) (disk disk' : DiskReport) (old new : RunReport)
    (ending : JournalEnding) : Type 0 where
  pub loaded : Loaded
  -- what the disk reports once the journal is loaded
  pub loaded_disk : DiskReport
  pub loads : LoadsJournal name disk loaded_disk (Ok loaded)
  pub goes : GoesOn loaded links links' loaded_disk disk' old new ending

abbrev pub ResumingEnds : List ℕ → LinksReport → LinksReport → DiskReport → DiskReport → RunReport → RunReport
    → JournalEnding → Type 0
ResumingEnds name links links' disk disk' old new ending =
    IsUnloaded name links links' disk disk' old new ending ⊎ IsLoadedFrom name links links' disk disk' old new ending
