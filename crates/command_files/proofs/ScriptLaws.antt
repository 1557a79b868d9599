-- What is known of a script, from what its file and its text say.
use Rattle.std.proofs.Common.{◌≡◌, ℕ, ◌≤◌, List, [], ◌∷◌, length, refl, inr}
use Rattle.std.specs.Prelude.{Option, Result, Ok, Err, IfErr}
use Rattle.command_setup.proofs.CommandIoEndingLaws.{reported_of}
use Rattle.command_setup.specs.command_io.Endings.{status_of}
use Rattle.command_setup.specs.command_io.Files.{ForGiven, ReadMore, good_read}
use Rattle.command_setup.specs.command_io.declared.ending.Ending.{Ending}
use Rattle.command_setup.specs.command_io.declared.ending.Ending.TheVariants.{Finished, ConfigRefused, Unread, OverLimit}
use Rattle.command_setup.specs.command_io.declared.ending.Ending.TheVariants.{BytesLeft, WriteFailed, LinksFailed}
use Rattle.command_setup.specs.command_io.declared.ending.Ending.TheVariants.{ScriptRefused, OutOfMemory}
use Rattle.command_setup.specs.command_io.declared.limits.TheConstants.{FILE_LIMIT}
use Rattle.command_setup.specs.command_io.declared.status.Status.TheVariants.{ReadFault}
use Rattle.command_files.proofs.OtherLaws.{file_refused_for_memory, file_rose}
use Rattle.command_files.specs.Files.{IsFile, OtherReads, ReadsOther}
use Rattle.ports.specs.Counts.{IsStill, Rose}
use Rattle.ports.specs.Reading.{IsHeld, StoreReport}
use Rattle.ports.specs.declared.script.Script.{Script}
use Rattle.ports.specs.declared.store.StoreRead.{StoreRead}
use Rattle.script_text.specs.Scripts.{script_of}
use Rattle.command_files.specs.Scripts.{IsScript, RefusesScript, RefusesText}

-- a fact of the bytes that were read, as one of the file
pub for_file : (name : List ℕ) (old new : StoreReport) (bytes : List ℕ) (P : List ℕ → Type 0)
    → IsFile name old new bytes → P bytes
    → ForGiven name old new (λ text. (length text ≤ FILE_LIMIT) × P text)
for_file name old new bytes P is fact = (bytes, is.0, (is.1, fact))

pub is_script : (name : List ℕ) (old new : StoreReport) (bytes : List ℕ) (script : Script)
    → IsFile name old new bytes → script_of bytes ≡ Ok script → IsScript name old new script
is_script name old new bytes script is read = (bytes, is.0, (is.1, read))

pub text_refused : (name bytes : List ℕ) (old new : StoreReport) (ending : Ending) → IsFile name old new bytes
    → RefusesText bytes ending
    → RefusesScript name old new ending
text_refused name bytes old new (ScriptRefused line) is refuses =
    for_file name old new bytes (λ text. script_of text ≡ Err line) is refuses
text_refused name bytes old new OutOfMemory is refuses = inr (bytes, is.0)
text_refused name bytes old new _ is refuses = absurd refuses

refused_read : (old new : Option (List StoreRead)) (name text : List ℕ) (ending : Ending) → RefusesText text ending
    → ReadMore (good_read name ∷ []) old new
    → OtherReads name old new ending
refused_read old new name text (ScriptRefused line) refuses grew =
    record { made = good_read name ∷ []; grew = grew; named = refl; counted = refl; failed = (refl, tt) }
refused_read old new name text OutOfMemory refuses grew =
    record { made = good_read name ∷ []; grew = grew; named = refl; counted = tt; failed = (refl, tt) }
refused_read old new name text _ refuses grew = absurd refuses

-- the file was read, whatever its text says
pub text_read : {T : Type 0} (old new : Option (List StoreRead)) (name text : List ℕ) (result : Result T Ending)
    → IfErr result (RefusesText text)
    → ReadMore (good_read name ∷ []) old new → ReadsOther name old new result
text_read old new name text (Ok links) refuses grew = grew
text_read old new name text (Err ending) refuses grew = refused_read old new name text ending refuses grew

-- ---- there is no script

pub script_rose : (name : List ℕ) (old new : StoreReport) (ending : Ending) → RefusesScript name old new ending
    → status_of ending ≡ ReadFault
    → Rose old.faults new.faults
script_rose name old new (Unread unread) refuses e = file_rose name old new (Unread unread) refuses e
script_rose name old new _ refuses e = cc

-- a script within its limit is refused only for lack of memory, where no fault is counted
pub script_refused_for_memory : (name text : List ℕ) (script : Script) (old new : StoreReport) (ending : Ending)
    → IsHeld (old.held name) text
    → script_of text ≡ Ok script → length text ≤ FILE_LIMIT → IsStill old.faults new.faults
    → RefusesScript name old new ending → ending ≡ OutOfMemory
script_refused_for_memory name text script old new (Unread unread) holds is fits still refuses =
    file_refused_for_memory name text old new (Unread unread) holds fits still refuses
script_refused_for_memory name text script old new (OverLimit over limit) holds is fits still refuses =
    file_refused_for_memory name text old new (OverLimit over limit) holds fits still refuses
script_refused_for_memory name text script old new (ScriptRefused line) holds is fits still refuses =
    let refused : script_of text ≡ Err line = (reported_of name old new text _ holds refuses).1 in cc
script_refused_for_memory name text script old new OutOfMemory holds is fits still refuses = refl
script_refused_for_memory name text script old new _ holds is fits still refuses = absurd refuses
