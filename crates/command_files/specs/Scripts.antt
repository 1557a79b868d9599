-- What is known of a script that was read, or could not be.
use Rattle.std.specs.Prelude.{◌≡◌, ℕ, ◌≤◌, List, length, Ok, Err}
use Rattle.command_setup.specs.command_io.Files.{ForGiven, MayGive}
use Rattle.command_setup.specs.command_io.declared.ending.Ending.{Ending}
use Rattle.command_setup.specs.command_io.declared.ending.Ending.TheVariants.{ScriptRefused, OutOfMemory}
use Rattle.command_setup.specs.command_io.declared.limits.TheConstants.{FILE_LIMIT}
use Rattle.command_files.specs.Files.{RefusesFile}
use Rattle.ports.specs.Reading.{StoreReport}
use Rattle.ports.specs.declared.script.Script.{Script}
use Rattle.script_text.specs.Scripts.{script_of}

-- a read of the file of the name gave a text within the limit that is this script, from what the store reports before
-- and after
abbrev pub IsScript : List ℕ → StoreReport → StoreReport → Script → Type 0
IsScript name old new script =
    ForGiven name old new (λ text. (length text ≤ FILE_LIMIT) × (script_of text ≡ Ok script))

-- why a text gives no script
abbrev pub RefusesText : List ℕ → Ending → Type 0
RefusesText text (ScriptRefused line) = script_of text ≡ Err line
RefusesText text OutOfMemory = Unit {0}
RefusesText text _ = ⊥

-- why there is no script: the file of the name was not read, or its text is not one
abbrev pub RefusesScript : List ℕ → StoreReport → StoreReport → Ending → Type 0
RefusesScript name old new (ScriptRefused line) =
    ForGiven name old new (λ text. (length text ≤ FILE_LIMIT) × (script_of text ≡ Err line))
RefusesScript name old new OutOfMemory = MayGive name old new
RefusesScript name old new ending = RefusesFile name old new ending
