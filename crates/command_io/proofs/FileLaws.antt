-- What a file that was not read says of the store.
use Rattle.std.proofs.Common.{◌≡◌, ℕ, ◌≤◌, List, [], ◌∷◌, ◌++◌, ◌∙◌}
use Rattle.std.specs.Option.{ForSome, option_map}
use Rattle.std.specs.Prelude.{Some}
use Rattle.std.specs.Borrow.{Bor}
use Rattle.ports.specs.Counts.{Rose}
use Rattle.ports.specs.Reading.{StoreReport}
use Rattle.command_io.specs.declared.fetch.FetchFault.{FetchFault}
use Rattle.command_io.specs.declared.fetch.FetchFault.TheVariants as fetch
use Rattle.config_terms.specs.declared.fault.ConfigFault.TheVariants.{Refused, Memory}
use Rattle.command_io.specs.declared.read.FileFault.{FileFault}
use Rattle.command_io.specs.declared.read.FileFault.TheVariants as file
use Rattle.command_io.specs.declared.status.Status.TheVariants.{ReadFault, SinkFault}
use Rattle.command_io.specs.Endings.{IsComplete, TookMore, status_of}
use Rattle.command_io.specs.Fetches.{IsFetchFault, ending_of_fetch, ending_of_file}
use Rattle.command_io.specs.Files.{Gives, GivesNone, IsFileFault}
use Rattle.command_io.proofs.Sinks.{nothing_appended}

-- ---- what a read gave

pub gives : (name text : List ℕ) (old new : StoreReport) → ForSome (old.held name) (λ held. held ≡ Some text)
    → new.gave ≡ option_map (λ gave. gave ++ (name, text) ∷ []) old.gave
    → new.held ≡ old.held → new.faults ≡ old.faults → old.taken ≤ new.taken → Gives name text old new
gives name text old new held gave same quiet taken =
    record { held = held; gave = gave; same = same; quiet = quiet; taken = taken }

pub gives_none : (old new : StoreReport) → new.gave ≡ option_map (λ gave. gave ++ []) old.gave → GivesNone old new
gives_none old new gave = gave ∙ nothing_appended old.gave

-- ---- the causes of faults

pub file_fault_rose : (name : List ℕ) (shown : Bor (List ℕ)) (limit : ℕ) (old new : StoreReport) (fault : FileFault)
    → IsFileFault name limit old new fault
    → status_of (ending_of_file shown limit fault) ≡ ReadFault → Rose old.faults new.faults
file_fault_rose name shown limit old new file.Unread cause e = cause.0
file_fault_rose name shown limit old new _ cause e = cc

pub fetch_fault_rose : (name : List ℕ) (shown : Bor (List ℕ)) (old new : StoreReport) (fault : FetchFault)
    → IsFetchFault name old new fault
    → status_of (ending_of_fetch shown fault) ≡ ReadFault → Rose old.faults new.faults
fetch_fault_rose name shown old new (fetch.Config (Refused place why)) cause e = cc
fetch_fault_rose name shown old new (fetch.File file.Unread) cause e = cause.0
fetch_fault_rose name shown old new (fetch.File _) cause e = cc
fetch_fault_rose name shown old new (fetch.Config Memory) cause e = cc

pub fetch_fault_took : (name : List ℕ) (shown : Bor (List ℕ)) (old new : StoreReport) (fault : FetchFault)
    → IsFetchFault name old new fault
    → TookMore (ending_of_fetch shown fault) old.taken new.taken
fetch_fault_took name shown old new (fetch.Config (Refused place why)) cause = tt
fetch_fault_took name shown old new (fetch.File file.TooLong) cause = cause.1
fetch_fault_took name shown old new (fetch.File _) cause = tt
fetch_fault_took name shown old new (fetch.Config Memory) cause = tt

-- ---- how a command does not end whose file was not read

pub fetch_not_complete : (name : Bor (List ℕ)) (fault : FetchFault) → IsComplete (ending_of_fetch name fault) → ⊥
fetch_not_complete name (fetch.Config (Refused place why)) complete = complete
fetch_not_complete name (fetch.File file.Unread) complete = complete
fetch_not_complete name (fetch.File _) complete = complete
fetch_not_complete name (fetch.Config Memory) complete = complete

pub fetch_not_written : (name : Bor (List ℕ)) (fault : FetchFault) → status_of (ending_of_fetch name fault) ≡ SinkFault
    → ⊥
fetch_not_written name (fetch.Config (Refused place why)) e = cc
fetch_not_written name (fetch.File file.Unread) e = cc
fetch_not_written name (fetch.File _) e = cc
fetch_not_written name (fetch.Config Memory) e = cc
