-- What a command read of its two files, from what one read after another answered.
use Rattle.std.proofs.Common.{◌≡◌, ℕ, suc, ◌≤◌, List, [], ◌∷◌, length, refl, ap, arith}
use Rattle.std.specs.Borrow.{Bor}
use Rattle.std.specs.Prelude.{Option}
use Rattle.command_setup.proofs.CommandIoReadLaws.{reads_both}
use Rattle.command_setup.specs.command_io.Endings.{IsReadOnce, IsRefusal, status_of}
use Rattle.command_setup.specs.command_io.Files.{IsFileFault, ReadMore, bad_read, good_read, reads_of_fault}
use Rattle.command_setup.specs.command_io.Fetches.{ending_of_file}
use Rattle.command_setup.specs.command_io.declared.ending.Ending.{Ending}
use Rattle.command_setup.specs.command_io.declared.ending.Ending.TheVariants.{Finished, ConfigRefused, Unread, OverLimit, BytesLeft}
use Rattle.command_setup.specs.command_io.declared.ending.Ending.TheVariants.{WriteFailed, LinksFailed, ScriptRefused, OutOfMemory}
use Rattle.command_setup.specs.command_io.declared.limits.TheConstants.{FILE_LIMIT}
use Rattle.command_setup.specs.command_io.declared.read.FileFault.{FileFault}
use Rattle.command_setup.specs.command_io.declared.read.FileFault.TheVariants as file
use Rattle.command_setup.specs.command_io.declared.status.Status.TheVariants.{ReadFault}
use Rattle.command_setup.proofs.CommandIoEndingLaws.{not_over}
use Rattle.ports.specs.Counts.{IsStill, Rose}
use Rattle.ports.specs.Reading.{IsHeld, StoreReport}
use Rattle.ports.specs.declared.store.StoreRead.{StoreRead}
use Rattle.command_files.specs.Files.{IsAfterRun, IsReadTwice, OtherReads, ReadsBoth, RefusesFile}

-- ---- the other file alone

pub other_refused : (name : List ℕ) (shown : Bor (List ℕ)) (old new : StoreReport) (fault : FileFault)
    → shown.now ≡ name
    → IsFileFault name FILE_LIMIT old new fault
    → RefusesFile name old new (ending_of_file shown FILE_LIMIT fault)
other_refused name shown old new file.Unread is cause = (cause.0, is, cause.1)
other_refused name shown old new file.TooLong is cause = (cause.0, cause.1, is, refl, cause.2)
other_refused name shown old new file.Memory is cause = cause

pub other_unread : (old new : Option (List StoreRead)) (name : List ℕ) (shown : Bor (List ℕ)) (fault : FileFault)
    → ReadMore (reads_of_fault name fault) old new
    → OtherReads name old new (ending_of_file shown FILE_LIMIT fault)
other_unread old new name shown file.Unread grew =
    record { made = bad_read name ∷ []; grew = grew; named = refl; counted = refl; failed = refl }
other_unread old new name shown file.TooLong grew =
    record { made = good_read name ∷ []; grew = grew; named = refl; counted = refl; failed = (refl, tt) }
other_unread old new name shown file.Memory grew =
    record { made = []; grew = grew; named = refl; counted = tt; failed = tt }

pub run_not_refused : (ending : Ending) → IsAfterRun ending → IsRefusal (status_of ending) → ⊥
run_not_refused Finished after refusal = refusal
run_not_refused (BytesLeft count) after refusal = refusal
run_not_refused WriteFailed after refusal = refusal
run_not_refused OutOfMemory after refusal = refusal
run_not_refused _ after refusal = after

-- ---- the file was refused

pub file_rose : (name : List ℕ) (old new : StoreReport) (ending : Ending) → RefusesFile name old new ending
    → status_of ending ≡ ReadFault
    → Rose old.faults new.faults
file_rose name old new (Unread unread) refuses e = refuses.0
file_rose name old new _ refuses e = cc

-- a file within its limit is refused only for lack of memory, where no fault is counted
pub file_refused_for_memory : (name bytes : List ℕ) (old new : StoreReport) (ending : Ending)
    → IsHeld (old.held name) bytes
    → length bytes ≤ FILE_LIMIT → IsStill old.faults new.faults → RefusesFile name old new ending → ending ≡ OutOfMemory
file_refused_for_memory name bytes old new (Unread unread) holds fits still refuses =
    absurd (omega (arith, refuses.0, still.0, still.1))
file_refused_for_memory name bytes old new (OverLimit over limit) holds fits still refuses =
    absurd (not_over (old.held name) bytes FILE_LIMIT holds fits refuses.0)
file_refused_for_memory name bytes old new OutOfMemory holds fits still refuses = refl
file_refused_for_memory name bytes old new _ holds fits still refuses = absurd refuses

-- ---- both files

counted_after : (ending : Ending) (count : ℕ) → IsReadOnce ending count → IsReadTwice ending (suc count)
counted_after OutOfMemory count counted = tt
counted_after _ count counted = ap suc counted

-- the configuration was read, and then the other file
pub both_read : (old mid new : Option (List StoreRead)) (config other : List ℕ) (ending : Ending)
    → ReadMore (good_read config ∷ []) old mid
    → OtherReads other mid new ending → ReadsBoth config other old new ending
both_read old mid new config other ending first second =
    reads_both (IsReadOnce ending) (IsReadTwice ending) old mid new config other ending first (counted_after ending)
    second
