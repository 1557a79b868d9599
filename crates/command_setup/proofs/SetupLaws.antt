-- What a command knows that has no configuration.
use Rattle.std.proofs.Common.{◌≡◌, ℕ, ◌≤◌, List, length, refl, inl, inr, arith}
use Rattle.std.specs.Borrow.{Bor}
use Rattle.hub_run.specs.hub_meaning.Verdicts.{PatternsReport}
use Rattle.ports.specs.Counts.{IsStill, Rose}
use Rattle.ports.specs.Reading.{IsHeld, StoreReport}
use Rattle.command_io.specs.sexp_config.declared.config.Config.{Config}
use Rattle.command_io.specs.sexp_config.Config.{IsConfigOf}
use Rattle.command_io.specs.declared.ending.Ending.{Ending}
use Rattle.command_io.specs.declared.ending.Ending.TheVariants.{Finished, ConfigRefused, Unread, OverLimit, BytesLeft}
use Rattle.command_io.specs.declared.ending.Ending.TheVariants.{WriteFailed, LinksFailed, ScriptRefused, OutOfMemory}
use Rattle.command_io.specs.declared.fetch.FetchFault.{FetchFault}
use Rattle.command_io.specs.declared.fetch.FetchFault.TheVariants as fetch
use Rattle.command_io.specs.config_terms.declared.fault.ConfigFault.TheVariants.{Refused, Memory}
use Rattle.command_io.specs.declared.limits.TheConstants.{CONFIG_LIMIT}
use Rattle.command_io.specs.declared.read.FileFault.TheVariants as file
use Rattle.command_io.specs.declared.status.Status.TheVariants.{ReadFault, SinkFault, LinkFault}
use Rattle.command_io.specs.Endings.{IsComplete, status_of}
use Rattle.command_io.specs.Fetches.{IsFetchFault, ending_of_fetch}
use Rattle.command_io.proofs.ConfigLaws.{config_not_refused}
use Rattle.command_io.proofs.EndingLaws.{not_over}
use Rattle.command_io.specs.Accepting.{RefusesSetup}

pub refuses_fetch : (name : List ℕ) (shown : Bor (List ℕ)) (store store' : StoreReport) (patterns : PatternsReport)
    (fault : FetchFault)
    → shown.now ≡ name
    → IsFetchFault name store store' fault
    → RefusesSetup name store store' patterns patterns (ending_of_fetch shown fault)
refuses_fetch name shown store store' patterns (fetch.Config (Refused place why)) is cause = (cause, refl)
refuses_fetch name shown store store' patterns (fetch.File file.Unread) is cause = (cause.0, refl, is, cause.1)
refuses_fetch name shown store store' patterns (fetch.File file.TooLong) is cause =
    (cause.0, cause.1, refl, is, refl, cause.2)
refuses_fetch name shown store store' patterns (fetch.File file.Memory) is cause = (refl, inl cause)
refuses_fetch name shown store store' patterns (fetch.Config Memory) is cause = (refl, inr cause)

-- ---- how a command does not end that has no configuration

pub refused_not_complete : (name : List ℕ) (store store' : StoreReport) (patterns patterns' : PatternsReport)
    (ending : Ending)
    → RefusesSetup name store store' patterns patterns' ending → IsComplete ending → ⊥
refused_not_complete name store store' patterns patterns' Finished refuses complete = refuses
refused_not_complete name store store' patterns patterns' (BytesLeft count) refuses complete = refuses
refused_not_complete name store store' patterns patterns' _ refuses complete = complete

pub refused_not_written : (name : List ℕ) (store store' : StoreReport) (patterns patterns' : PatternsReport)
    (ending : Ending)
    → RefusesSetup name store store' patterns patterns' ending → status_of ending ≡ SinkFault → ⊥
refused_not_written name store store' patterns patterns' WriteFailed refuses e = refuses
refused_not_written name store store' patterns patterns' _ refuses e = cc

pub refused_not_linked : (name : List ℕ) (store store' : StoreReport) (patterns patterns' : PatternsReport)
    (ending : Ending)
    → RefusesSetup name store store' patterns patterns' ending → status_of ending ≡ LinkFault → ⊥
refused_not_linked name store store' patterns patterns' LinksFailed refuses e = refuses
refused_not_linked name store store' patterns patterns' _ refuses e = cc

-- ---- the causes of the others

pub refused_rose : (name : List ℕ) (store store' : StoreReport) (patterns patterns' : PatternsReport) (ending : Ending)
    → RefusesSetup name store store' patterns patterns' ending → status_of ending ≡ ReadFault
    → Rose store.faults store'.faults
refused_rose name store store' patterns patterns' (Unread unread) refuses e = refuses.0
refused_rose name store store' patterns patterns' _ refuses e = cc

-- a configuration within its limit is refused only for lack of memory, where no fault and no refusal is counted
pub refused_for_memory : (name text : List ℕ) (read : Config) (store store' : StoreReport)
    (patterns patterns' : PatternsReport) (ending : Ending)
    → IsHeld (store.held name) text → IsConfigOf text read → length text ≤ CONFIG_LIMIT
    → IsStill store.faults store'.faults
    → IsStill patterns.refusals patterns'.refusals → RefusesSetup name store store' patterns patterns' ending
    → ending ≡ OutOfMemory
refused_for_memory name text read store store' patterns patterns' (ConfigRefused refusal) holds is fits reads_still
    still refuses =
    absurd (config_not_refused name store store' text read refusal patterns patterns' holds is still refuses)
refused_for_memory name text read store store' patterns patterns' (Unread unread) holds is fits reads_still still
    refuses =
    absurd (omega (arith, refuses.0, reads_still.0, reads_still.1))
refused_for_memory name text read store store' patterns patterns' (OverLimit over limit) holds is fits reads_still still
    refuses =
    absurd (not_over (store.held name) text CONFIG_LIMIT holds fits refuses.0)
refused_for_memory name text read store store' patterns patterns' OutOfMemory holds is fits reads_still still refuses =
    refl
refused_for_memory name text read store store' patterns patterns' _ holds is fits reads_still still refuses =
    absurd refuses
