-- What is known of a configuration that was fetched from a store, or could not be.
use Rattle.std.specs.Prelude.{ℕ, List, [], ◌∷◌, Result, Ok, Err}
use Rattle.std.specs.Borrow.{Bor}
use Rattle.ports.specs.Reading.{StoreReport}
use Rattle.ports.specs.declared.store.StoreRead.{StoreRead}
use Rattle.sexp_config.specs.declared.config.Config.{Config}
use Rattle.command_io.specs.declared.ending.ConfigRefusal.TheVariants as refusals
use Rattle.command_io.specs.declared.ending.Ending.{Ending}
use Rattle.command_io.specs.declared.ending.Ending.TheVariants.{ConfigRefused, Unread, OverLimit, OutOfMemory}
use Rattle.command_io.specs.declared.fetch.FetchFault.{FetchFault}
use Rattle.command_io.specs.declared.fetch.FetchFault.TheVariants as fetch
use Rattle.config_terms.specs.declared.fault.ConfigFault.{ConfigFault}
use Rattle.config_terms.specs.declared.fault.ConfigFault.TheVariants.{Refused, Memory}
use Rattle.command_io.specs.declared.read.FileFault.{FileFault}
use Rattle.command_io.specs.declared.read.FileFault.TheVariants as file
use Rattle.command_io.specs.declared.limits.TheConstants.{CONFIG_LIMIT}
use Rattle.command_io.specs.Configs.{ForRefused, IsRefused}
use Rattle.command_io.specs.Files.{Gives, IsFileFault, good_read, reads_of_fault}

-- how a command ends whose file was not read, or whose configuration was not
abbrev pub ending_of_file : Bor (List ℕ) → ℕ → FileFault → Ending
ending_of_file name limit file.Unread = Unread name
ending_of_file name limit file.TooLong = OverLimit name limit
ending_of_file name limit file.Memory = OutOfMemory

abbrev pub ending_of_config : ConfigFault → Ending
ending_of_config (Refused place why) = ConfigRefused (refusals.Refused place why)
ending_of_config Memory = OutOfMemory

abbrev pub ending_of_fetch : Bor (List ℕ) → FetchFault → Ending
ending_of_fetch name (fetch.File fault) = ending_of_file name CONFIG_LIMIT fault
ending_of_fetch name (fetch.Config fault) = ending_of_config fault

-- why a text is not a configuration
abbrev pub IsTextFault : List ℕ → FetchFault → Type 0
IsTextFault text (fetch.File fault) = ⊥
IsTextFault text (fetch.Config (Refused place why)) = IsRefused text place why
IsTextFault text (fetch.Config Memory) = Unit {0}

-- why there is no configuration in the file of the name, from what the store reports before and after
abbrev pub IsFetchFault : List ℕ → StoreReport → StoreReport → FetchFault → Type 0
IsFetchFault name old new (fetch.File fault) = IsFileFault name CONFIG_LIMIT old new fault
IsFetchFault name old new (fetch.Config (Refused place why)) = ForRefused name old new place why
IsFetchFault name old new (fetch.Config Memory) = (text : List ℕ) × Gives name text old new

-- the reads that are made for a configuration
abbrev pub fetch_reads : List ℕ → Result Config FetchFault → List StoreRead
fetch_reads name (Ok config) = good_read name ∷ []
fetch_reads name (Err (fetch.File fault)) = reads_of_fault name fault
fetch_reads name (Err (fetch.Config fault)) = good_read name ∷ []
