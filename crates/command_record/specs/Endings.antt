-- How the commands end that keep a journal: their statuses and their lines.
use Rattle.std.specs.Prelude.{ℕ, List, [], ◌∷◌, ◌++◌, codes, Result, Ok, Err}
use Rattle.std.specs.Fmt.{decimal}
use Rattle.command_setup.specs.command_io.Endings as shared
use Rattle.command_setup.specs.command_io.Endings.{GotLineOf}
use Rattle.command_setup.specs.command_io.declared.ending.Ending.TheVariants.{Finished, WriteFailed, LinksFailed}
use Rattle.command_setup.specs.command_io.declared.ending.Ending.TheVariants.{OutOfMemory}
use Rattle.command_setup.specs.command_io.declared.status.Status.{Status}
use Rattle.command_setup.specs.command_io.declared.status.Status.TheVariants.{Journal, DiskFault}
use Rattle.command_setup.specs.conn_core.declared.hub.Hub.{Hub}
use Rattle.journal_run.specs.declared.fault.JournalRunFault.{JournalRunFault}
use Rattle.journal_run.specs.declared.fault.JournalRunFault.TheVariants as run
use Rattle.ports.specs.Writing.{SinkReport}
use Rattle.turn_journal.specs.declared.fault.JournalFault.{JournalFault}
use Rattle.turn_journal.specs.declared.fault.JournalFault.TheVariants as fault
use Rattle.command_record.specs.declared.ending.JournalEnding.{JournalEnding}
use Rattle.command_record.specs.declared.ending.JournalEnding.TheVariants.{Shared, Refused, DiskFailed}

abbrev pub status_of : JournalEnding → Status
status_of (Shared ending) = shared.status_of ending
status_of (Refused place) = Journal
status_of DiskFailed = DiskFault

-- how a command ends that has no journal, for this fault
abbrev pub ending_of_fault : JournalFault → JournalEnding
ending_of_fault (fault.Refused place) = Refused place
ending_of_fault fault.DiskFault = DiskFailed
ending_of_fault fault.Memory = Shared OutOfMemory

-- and after such a run
abbrev pub ending_of_run : Result Hub JournalRunFault → JournalEnding
ending_of_run (Ok hub) = Shared Finished
ending_of_run (Err run.Disk) = DiskFailed
ending_of_run (Err run.Links) = Shared LinksFailed
ending_of_run (Err run.Sink) = Shared WriteFailed
ending_of_run (Err run.Memory) = Shared OutOfMemory

-- ---- lines

abbrev pub journal_line : ℕ → List ℕ
journal_line place = codes "riemann: journal refused at " ++ (decimal place ++ 10 ∷ [])

abbrev pub disk_line : List ℕ
disk_line = codes "riemann: disk failed" ++ 10 ∷ []

-- the error stream got the line of an ending, or a prefix of it where a put failed; without a line nothing was put
abbrev pub Says : JournalEnding → SinkReport → SinkReport → Type 0
Says (Shared ending) old new = shared.Says ending old new
Says (Refused place) old new = GotLineOf (journal_line place) old new
Says DiskFailed old new = GotLineOf disk_line old new

-- the endings of a command whose server took its last turn
abbrev pub IsComplete : JournalEnding → Type 0
IsComplete (Shared Finished) = Unit {0}
IsComplete _ = ⊥

-- the endings of a command that has no configuration
abbrev pub HasNoConfig : JournalEnding → Type 0
HasNoConfig (Shared ending) = shared.HasNoConfig ending
HasNoConfig _ = ⊥
