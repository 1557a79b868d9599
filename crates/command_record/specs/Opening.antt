-- The journal in a file that was opened by its name, and why there is none.
use Rattle.std.specs.Prelude.{◌≡◌, ◌⊎◌, ℕ, true, List, [], ◌∷◌, ◌++◌, Result, Ok, Err, IfErr, IfOk, OnOk}
use Rattle.std.specs.Option.{ForSome, option_map}
use Rattle.disk_port.specs.Calls.{DiskReport}
use Rattle.disk_port.specs.Past.{synced, text_of}
use Rattle.journal_format.specs.Journals.{Journal}
use Rattle.journal_format.specs.declared.finder.Found.{Found}
use Rattle.journal_links.specs.Resuming.{Resumes}
use Rattle.turn_journal.specs.Beginning.{HoldsBlankOrFree, IsFree, IsWhyTaken, LeavesAfterSync, StandsBlank, is_taken}
use Rattle.turn_journal.specs.Loading.{HasFaultCause, IsSyncedOrNot, IsWhyRefused}
use Rattle.turn_journal.specs.declared.fault.JournalFault.{JournalFault}
use Rattle.turn_journal.specs.declared.fault.JournalFault.TheVariants.{Refused, DiskFault, Memory}
use Rattle.command_record.specs.declared.journal.Loaded.{Loaded}

-- the file of the name was opened, or opening it failed
abbrev pub Opens : List ℕ → DiskReport → DiskReport → Type 0
Opens name old new = new.opened ≡ option_map (λ names. names ++ name ∷ []) old.opened

-- the same, unless memory ran out before
abbrev pub OpensFor : {T : Type 0} → List ℕ → DiskReport → DiskReport → Result T JournalFault → Type 0
OpensFor name old new (Ok value) = Opens name old new
OpensFor name old new (Err (Refused place)) = Opens name old new
OpensFor name old new (Err DiskFault) = Opens name old new
OpensFor name old new (Err Memory) = (new.opened ≡ old.opened) ⊎ Opens name old new

-- A journal of the configuration was begun in the file of the name, or why it was not. A file that may hold a journal
-- is refused at 0, and no other is.
pub record BeginsJournal (name config : List ℕ) (old new : DiskReport)
    (result : Result Found JournalFault) : Type 0 where
  pub opens : OpensFor name old new result
  pub cause : HasFaultCause old.faults new.faults result
  -- once it is begun, every crash leaves the journal
  pub begun : IfOk result (λ found. ForSome old.past (λ past. StandsBlank config found new.past))
  pub free : OnOk result (ForSome old.past (λ past. IsFree (text_of past)))
  pub refused : IfErr result (λ fault. ForSome old.past (λ past. IsWhyTaken (text_of past) fault))
  -- a file that may hold a journal is not written
  pub unwritten : ForSome old.past (λ past. is_taken (text_of past) ≡ true → IsSyncedOrNot old.past new.past)
  -- In a file that is not refused, a crash at any moment after the first sync leaves the journal, or a file that is not
  -- refused.
  pub any_moment : ForSome old.past
      (λ past. IsFree (text_of past) → LeavesAfterSync past new.past (HoldsBlankOrFree config))

-- The journal in the file of the name was loaded, or why it was not. Nothing was written. A file that holds no journal
-- is refused at the first place that does not fit, and no other is.
pub record LoadsJournal (name : List ℕ) (old new : DiskReport) (result : Result Loaded JournalFault) : Type 0 where
  pub opens : OpensFor name old new result
  pub cause : HasFaultCause old.faults new.faults result
  -- once it is loaded, every crash leaves the journal
  pub loaded : IfOk result (λ loaded. ForSome old.past (λ past. Resumes past loaded.found loaded.config loaded.records))
  pub put : OnOk result (new.past ≡ option_map synced old.past)
  pub refused : IfErr result (λ fault. ForSome old.past (λ past. IsWhyRefused (text_of past) fault))
  pub unwritten : IsSyncedOrNot old.past new.past

-- the journal was read, unless memory ran out
abbrev pub IsReadOrMemory : Journal → Result Loaded JournalFault → Type 0
IsReadOrMemory journal (Ok loaded) = (loaded.config ≡ journal.config) × (loaded.records ≡ journal.records)
IsReadOrMemory journal (Err (Refused place)) = ⊥
IsReadOrMemory journal (Err DiskFault) = ⊥
IsReadOrMemory journal (Err Memory) = Unit {0}
