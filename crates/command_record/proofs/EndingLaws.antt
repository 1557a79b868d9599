-- Endings, by their statuses and by what led to them.
use Rattle.std.proofs.Common.{◌≡◌, ◌≢◌, Result, Ok, Err, refl}
use Rattle.command_setup.specs.command_io.Endings.{IsRefusal}
use Rattle.command_setup.specs.command_io.declared.ending.Ending.TheVariants.{Finished, LinksFailed, WriteFailed}
use Rattle.command_setup.specs.command_io.declared.status.Status.TheVariants.{Usage, ReadFault, SinkFault, LinkFault}
use Rattle.command_setup.specs.command_io.declared.status.Status.TheVariants.{DiskFault}
use Rattle.command_setup.specs.conn_core.declared.hub.Hub.{Hub}
use Rattle.journal_run.specs.declared.fault.JournalRunFault.{JournalRunFault}
use Rattle.journal_run.specs.declared.fault.JournalRunFault.TheVariants as run
use Rattle.turn_journal.specs.declared.fault.JournalFault.{JournalFault}
use Rattle.turn_journal.specs.declared.fault.JournalFault.TheVariants as fault
use Rattle.command_record.specs.Endings.{HasNoConfig, ending_of_fault, ending_of_run, status_of}
use Rattle.command_record.specs.declared.ending.JournalEnding.{JournalEnding}
use Rattle.command_record.specs.declared.ending.JournalEnding.TheVariants.{Shared, DiskFailed}

-- ---- by their statuses

pub is_write_failed : (ending : JournalEnding) → status_of ending ≡ SinkFault → ending ≡ Shared WriteFailed
is_write_failed (Shared WriteFailed) e = refl
is_write_failed _ e = absurd (cc e)

pub is_links_failed : (ending : JournalEnding) → status_of ending ≡ LinkFault → ending ≡ Shared LinksFailed
is_links_failed (Shared LinksFailed) e = refl
is_links_failed _ e = absurd (cc e)

pub is_disk_failed : (ending : JournalEnding) → status_of ending ≡ DiskFault → ending ≡ DiskFailed
is_disk_failed DiskFailed e = refl
is_disk_failed (Shared Finished) e = absurd (cc e)
is_disk_failed _ e = absurd (cc e)

pub not_usage : (ending : JournalEnding) → status_of ending ≡ Usage → ⊥
not_usage (Shared Finished) e = cc
not_usage _ e = cc

-- ---- without a journal

pub fault_not_read : (why : JournalFault) → status_of (ending_of_fault why) ≢ ReadFault
fault_not_read (fault.Refused place) e = cc
fault_not_read _ e = cc

pub fault_configured : (why : JournalFault) → HasNoConfig (ending_of_fault why) → ⊥
fault_configured (fault.Refused place) none = none
fault_configured _ none = none

-- ---- a run

pub run_not_read : (ran : Result Hub JournalRunFault) → status_of (ending_of_run ran) ≢ ReadFault
run_not_read (Ok hub) e = cc
run_not_read (Err run.Disk) e = cc
run_not_read (Err _) e = cc

pub run_configured : (ran : Result Hub JournalRunFault) → HasNoConfig (ending_of_run ran) → ⊥
run_configured (Ok hub) none = none
run_configured (Err run.Disk) none = none
run_configured (Err _) none = none

pub run_not_refused : (ran : Result Hub JournalRunFault) → IsRefusal (status_of (ending_of_run ran)) → ⊥
run_not_refused (Ok hub) refused = refused
run_not_refused (Err run.Disk) refused = refused
run_not_refused (Err _) refused = refused

pub run_of_links : (ran : Result Hub JournalRunFault) → ending_of_run ran ≡ Shared LinksFailed → ran ≡ Err run.Links
run_of_links (Err run.Links) e = refl
run_of_links _ e = absurd (cc e)

pub run_of_sink : (ran : Result Hub JournalRunFault) → ending_of_run ran ≡ Shared WriteFailed → ran ≡ Err run.Sink
run_of_sink (Err run.Sink) e = refl
run_of_sink _ e = absurd (cc e)

pub run_of_disk : (ran : Result Hub JournalRunFault) → ending_of_run ran ≡ DiskFailed → ran ≡ Err run.Disk
run_of_disk (Err run.Disk) e = refl
run_of_disk _ e = absurd (cc e)
