-- The journal in a file that was opened by its name.
use Rattle.std.proofs.Common.{◌≡◌, ◌≢◌, ℕ, ◌+◌, ◌<◌, ◌≤◌, List, [], ◌++◌, length, Option, Some, None, Result, Ok, Err}
use Rattle.std.proofs.Common.{false, true, inl, inr, refl, ap, sym, ◌∙◌, subst, append-nil, arith}
use Rattle.std.specs.Option.{ForSome, option_map}
use Rattle.std.specs.Prelude.{IfErr, IfOk, OnOk}
use Rattle.disk_port.specs.Calls.{DiskReport, HasCause, opened_by}
use Rattle.disk_port.specs.Past.{Past, synced, text_of}
use Rattle.disk_port.specs.declared.disk.DiskError.{DiskError}
use Rattle.disk_port.specs.declared.disk.DiskError.TheVariants as error
use Rattle.journal_format.specs.Journals.{Journal}
use Rattle.journal_format.specs.Limits.{config_limit, journal_limit, step_limit}
use Rattle.journal_format.specs.declared.finder.Found.{Found}
use Rattle.journal_links.proofs.ResumeLaws.{loaded_whole}
use Rattle.journal_links.specs.Resuming.{Resumes}
use Rattle.turn_journal.specs.Beginning.{HoldsBlankOrFree, IsFree, IsWhyTaken, LeavesAfterSync, StandsBlank, blank_end}
use Rattle.turn_journal.specs.Beginning.{is_taken}
use Rattle.turn_journal.specs.Loading.{HasFaultCause, IsLoaded, IsSyncedOrNot, IsWhyRefused, fault_of}
use Rattle.turn_journal.specs.Standing.{Stands}
use Rattle.turn_journal.specs.declared.fault.JournalFault.{JournalFault}
use Rattle.turn_journal.specs.declared.fault.JournalFault.TheVariants.{Refused, DiskFault, Memory}
use Rattle.journal_links.specs.Reading.{IsWhole}
use Rattle.command_record.specs.Opening.{BeginsJournal, IsReadOrMemory, LoadsJournal, Opens, OpensFor}
use Rattle.command_record.specs.declared.journal.Loaded.{Loaded}

-- ---- the end of a journal without a record

pub blank_has_none : (config : List ℕ) (found : Found) → found ≡ blank_end config → found.has_record ≡ false
blank_has_none config found is = ap (λ (f : Found). f.has_record) is

pub blank_has_room : (config : List ℕ) (found : Found) → found ≡ blank_end config → length config ≤ config_limit
    → found.gate + step_limit < journal_limit
blank_has_room config found is small =
    let gate : found.gate ≡ length config + 5 = ap (λ (f : Found). f.gate) is in omega (arith, gate, small)

-- the same of one that was loaded
pub loaded_has_room : (found : Found) → (found.has_record ≡ false → found.gate ≤ config_limit + 5)
    → found.has_record ≡ false → found.gate + step_limit < journal_limit
loaded_has_room found blank none = let gate = blank none in omega (arith, gate)

-- ---- the name of the file

nothing_added : (names : Option (List (List ℕ))) → option_map (λ names. names ++ []) names ≡ names
nothing_added None = refl
nothing_added (Some names) = ap Some (append-nil names)

-- it was opened, whatever came of it then
opens_for : {T : Type 0} (name : List ℕ) (old mid new : DiskReport) (result : Result T JournalFault)
    → Opens name old mid → new.opened ≡ mid.opened → OpensFor name old new result
opens_for name old mid new (Ok value) opens same = same ∙ opens
opens_for name old mid new (Err Memory) opens same = inr (same ∙ opens)
opens_for name old mid new (Err _) opens same = same ∙ opens

-- it was not opened
opening_fails : (T : Type 0) (name : List ℕ) (old new : DiskReport) (why : DiskError)
    → new.opened ≡ option_map (λ names. names ++ opened_by name (Err why)) old.opened
    → OpensFor {T = T} name old new (Err (fault_of why))
opening_fails T name old new error.Failed opened = opened
opening_fails T name old new error.Memory opened = inl (opened ∙ nothing_added old.opened)

opening_cause : (T U : Type 0) (old new : ℕ) (why : DiskError) → HasCause {T = U} old new (Err why)
    → HasFaultCause {T = T} old new (Err (fault_of why))
opening_cause T U old new error.Failed cause = cause
opening_cause T U old new error.Memory cause = cause

why_not_taken : (file : List ℕ) (why : DiskError) → IsWhyTaken file (fault_of why)
why_not_taken file error.Failed = tt
why_not_taken file error.Memory = tt

why_not_refused : (file : List ℕ) (why : DiskError) → IsWhyRefused file (fault_of why)
why_not_refused file error.Failed = tt
why_not_refused file error.Memory = tt

-- ---- beginning a journal

pub not_begun : (name config : List ℕ) (old new : DiskReport) (why : DiskError) → new.past ≡ old.past
    → new.opened ≡ option_map (λ names. names ++ opened_by name (Err why)) old.opened
    → HasCause {T = Unit {0}} old.faults new.faults (Err why)
    → BeginsJournal name config old new (Err (fault_of why))
not_begun name config old new why past opened cause = record {
  opens = opening_fails Found name old new why opened;
  cause = opening_cause Found (Unit {0}) old.faults new.faults why cause;
  begun = tt;
  free = tt;
  refused = λ file told. why_not_taken (text_of file) why;
  unwritten = λ file told taken. inl past;
  any_moment = λ file told free. inl (past ∙ told);
}

-- what is known of the file once it is open is known of it as it was before
pub begins_open : (name config : List ℕ) (old mid new : DiskReport) (result : Result Found JournalFault)
    → mid.past ≡ old.past → Opens name old mid → mid.faults ≡ old.faults
    → new.opened ≡ mid.opened → HasFaultCause mid.faults new.faults result
    → IfOk result (λ found. ForSome mid.past (λ past. StandsBlank config found new.past))
    → OnOk result (ForSome mid.past (λ past. IsFree (text_of past)))
    → IfErr result (λ fault. ForSome mid.past (λ past. IsWhyTaken (text_of past) fault))
    → ForSome mid.past (λ past. is_taken (text_of past) ≡ true → IsSyncedOrNot mid.past new.past)
    → ForSome mid.past (λ past. IsFree (text_of past) → LeavesAfterSync past new.past (HoldsBlankOrFree config))
    → BeginsJournal name config old new result
begins_open name config old mid new result past opens faults same cause begun free refused unwritten
    any_moment = record {
      opens = opens_for name old mid new result opens same;
      cause = subst (λ (n : ℕ). HasFaultCause n new.faults result) faults cause;
      begun =
          subst
          (λ (told : Option Past). IfOk result (λ found. ForSome told (λ past. StandsBlank config found new.past)))
          past begun;
      free = subst (λ (told : Option Past). OnOk result (ForSome told (λ past. IsFree (text_of past)))) past free;
      refused =
          subst (λ (told : Option Past). IfErr result (λ fault. ForSome told (λ past. IsWhyTaken (text_of past) fault)))
          past refused;
      unwritten =
          subst
          (λ (told : Option Past). ForSome told (λ past. is_taken (text_of past) ≡ true → IsSyncedOrNot told new.past))
          past
          unwritten;
      any_moment =
          subst
          (λ (told : Option Past).
          ForSome told (λ past. IsFree (text_of past) → LeavesAfterSync past new.past (HoldsBlankOrFree config)))
          past any_moment;
    }

-- ---- loading a journal

pub not_loaded : (name : List ℕ) (old new : DiskReport) (why : DiskError) → new.past ≡ old.past
    → new.opened ≡ option_map (λ names. names ++ opened_by name (Err why)) old.opened
    → HasCause {T = Unit {0}} old.faults new.faults (Err why)
    → LoadsJournal name old new (Err (fault_of why))
not_loaded name old new why past opened cause = record {
  opens = opening_fails Loaded name old new why opened;
  cause = opening_cause Loaded (Unit {0}) old.faults new.faults why cause;
  loaded = tt;
  put = tt;
  refused = λ file told. why_not_refused (text_of file) why;
  unwritten = inl past;
}

pub loads_open : (name : List ℕ) (old mid new : DiskReport) (result : Result Loaded JournalFault) → mid.past ≡ old.past
    → Opens name old mid → mid.faults ≡ old.faults
    → new.opened ≡ mid.opened → HasFaultCause mid.faults new.faults result
    → IfOk result (λ loaded. ForSome mid.past (λ past. Resumes past loaded.found loaded.config loaded.records))
    → OnOk result (new.past ≡ option_map synced mid.past)
    → IfErr result (λ fault. ForSome mid.past (λ past. IsWhyRefused (text_of past) fault))
    → IsSyncedOrNot mid.past new.past → LoadsJournal name old new result
loads_open name old mid new result past opens faults same cause loaded put refused unwritten = record {
  opens = opens_for name old mid new result opens same;
  cause = subst (λ (n : ℕ). HasFaultCause n new.faults result) faults cause;
  loaded =
      subst
      (λ (told : Option Past).
      IfOk result (λ loaded. ForSome told (λ past. Resumes past loaded.found loaded.config loaded.records)))
      past loaded;
  put = subst (λ (told : Option Past). OnOk result (new.past ≡ option_map synced told)) past put;
  refused =
      subst (λ (told : Option Past). IfErr result (λ fault. ForSome told (λ past. IsWhyRefused (text_of past) fault)))
      past refused;
  unwritten = subst (λ (told : Option Past). IsSyncedOrNot told new.past) past unwritten;
}

-- ---- reading one that was loaded

-- what was read of it is resumed
pub read_resumes : (old : Option Past) (found : Found) (bytes : List ℕ) (answer : Result Loaded JournalFault)
    → ForSome old (λ past. IsLoaded past found bytes)
    → IfOk answer (λ loaded. loaded.found ≡ found)
    → ((journal : Journal) → IsWhole journal bytes → IsReadOrMemory journal answer)
    → IfOk answer (λ loaded. ForSome old (λ past. Resumes past loaded.found loaded.config loaded.records))
read_resumes old found bytes (Ok loaded) is_loaded same read = λ past told.
    let at = is_loaded past told in
    let parts = read at.journal (loaded_whole past found bytes at) in
    record {
      journal = at.journal;
      stands = subst (λ (f : Found). Stands (synced past) f.gate f.has_record at.journal) (sym same) at.stands;
      config_is = parts.0;
      records_are = parts.1;
    }
read_resumes old found bytes (Err fault) is_loaded same read = tt

read_whole : (file : List ℕ) (journal : Journal) (answer : Result Loaded JournalFault) → IsReadOrMemory journal answer
    → IfErr answer (IsWhyRefused file)
read_whole file journal (Ok loaded) read = tt
read_whole file journal (Err Memory) read = tt
read_whole file journal (Err _) read = absurd read

-- it is not refused
pub read_unrefused : (old : Option Past) (found : Found) (bytes : List ℕ) (answer : Result Loaded JournalFault)
    → ForSome old (λ past. IsLoaded past found bytes)
    → ((journal : Journal) → IsWhole journal bytes → IsReadOrMemory journal answer)
    → IfErr answer (λ fault. ForSome old (λ past. IsWhyRefused (text_of past) fault))
read_unrefused old found bytes (Ok loaded) is_loaded read = tt
read_unrefused old found bytes (Err fault) is_loaded read = λ past told.
    let at = is_loaded past told in
    read_whole (text_of past) at.journal (Err fault) (read at.journal (loaded_whole past found bytes at))

-- and no call of the disk failed
pub read_cause : {T : Type 0} (old new : ℕ) (answer : Result T JournalFault) → new ≡ old → answer ≢ Err DiskFault
    → HasFaultCause old new answer
read_cause old new (Ok loaded) same quiet = same
read_cause old new (Err DiskFault) same quiet = absurd (quiet refl)
read_cause old new (Err _) same quiet = same

-- a fact of its end
pub of_end : (P : Found → Type 0) (found : Found) (answer : Result Loaded JournalFault)
    → IfOk answer (λ loaded. loaded.found ≡ found) → P found → IfOk answer (λ loaded. P loaded.found)
of_end P found (Ok loaded) same fact = subst P (sym same) fact
of_end P found (Err fault) same fact = tt

pub on_ok : {T E P : Type 0} (answer : Result T E) → P → OnOk answer P
on_ok (Ok value) fact = fact
on_ok (Err error) fact = tt
