-- What is loaded of a disk's file, and why nothing is.
use Rattle.std.specs.Prelude.{◌≡◌, ◌⊎◌, ℕ, ◌+◌, List, take, Option, Result, Ok, Err}
use Rattle.std.specs.Option.{option_map}
use Rattle.disk_port.specs.Calls.{Fails}
use Rattle.disk_port.specs.Past.{Past, synced, text_of}
use Rattle.disk_port.specs.declared.disk.DiskError.{DiskError}
use Rattle.disk_port.specs.declared.disk.DiskError.TheVariants as disk
use Rattle.journal_format.specs.Journals.{FileMisfitsAt, Journal, MisfitsAt}
use Rattle.journal_format.specs.declared.finder.Found.{Found}
use Rattle.turn_journal.specs.Standing.{Stands}
use Rattle.turn_journal.specs.declared.fault.JournalFault.{JournalFault}
use Rattle.turn_journal.specs.declared.fault.JournalFault.TheVariants.{Refused, DiskFault, Memory}

abbrev pub fault_of : DiskError → JournalFault
fault_of disk.Failed = DiskFault
fault_of disk.Memory = Memory

-- why a call answered so, with the disk's counts of faults before and after
abbrev pub HasFaultCause : {T : Type 0} → ℕ → ℕ → Result T JournalFault → Type 0
HasFaultCause old new (Ok value) = new ≡ old
HasFaultCause old new (Err (Refused place)) = new ≡ old
HasFaultCause old new (Err DiskFault) = Fails old new
HasFaultCause old new (Err Memory) = new ≡ old

-- of the file nothing was done, or all of it was put on the disk
abbrev pub IsSyncedOrNot : Option Past → Option Past → Type 0
IsSyncedOrNot old new = (new ≡ old) ⊎ (new ≡ option_map synced old)

-- after the sync the journal that ends so stands there, and these are its bytes up to its closed gate
pub record IsLoaded (past : Past) (found : Found) (bytes : List ℕ) : Type 0 where
  pub journal : Journal
  pub stands : Stands (synced past) found.gate found.has_record journal
  pub text : bytes ≡ take (found.gate + 1) (text_of past)

-- a file is refused at the first place that does not fit
abbrev pub IsWhyRefused : List ℕ → JournalFault → Type 0
IsWhyRefused file (Refused place) = FileMisfitsAt file place
IsWhyRefused file DiskFault = Unit {0}
IsWhyRefused file Memory = Unit {0}

-- the same of the bytes that were read of it
abbrev pub IsWhyUnfit : List ℕ → JournalFault → Type 0
IsWhyUnfit bytes (Refused place) = MisfitsAt bytes place
IsWhyUnfit bytes DiskFault = ⊥
IsWhyUnfit bytes Memory = Unit {0}
