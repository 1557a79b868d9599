-- What `check` promises, from what its parts say.
use Rattle.std.proofs.Common.{◌≡◌, ℕ, ◌≤◌, List, [], ◌∷◌, length, refl, inl, inr, arith}
use Rattle.std.specs.Borrow.{Bor}
use Rattle.std.specs.Prelude.{Option}
use Rattle.ports.specs.Counts.{IsStill, Rose}
use Rattle.ports.specs.Reading.{IsHeld, StoreReport}
use Rattle.ports.specs.declared.store.StoreRead.{StoreRead}
use Rattle.command_io.specs.sexp_config.declared.config.Config.{Config}
use Rattle.command_io.specs.sexp_config.Config.{IsConfigOf}
use Rattle.command_io.specs.declared.ending.ConfigRefusal.{ConfigRefusal}
use Rattle.command_io.specs.declared.ending.ConfigRefusal.TheVariants as refusals
use Rattle.command_io.specs.declared.ending.Ending.{Ending}
use Rattle.command_io.specs.declared.ending.Ending.TheVariants.{Finished, ConfigRefused, Unread, OverLimit, BytesLeft}
use Rattle.command_io.specs.declared.ending.Ending.TheVariants.{WriteFailed, LinksFailed, ScriptRefused, OutOfMemory}
use Rattle.command_io.specs.declared.fetch.FetchFault.{FetchFault}
use Rattle.command_io.specs.declared.fetch.FetchFault.TheVariants as fetch
use Rattle.command_io.specs.config_terms.declared.fault.ConfigFault.TheVariants.{Refused, Memory}
use Rattle.command_io.specs.declared.read.FileFault.TheVariants as file
use Rattle.command_io.specs.declared.limits.TheConstants.{CONFIG_LIMIT}
use Rattle.command_io.specs.declared.status.Status.TheVariants.{ReadFault, SinkFault, LinkFault}
use Rattle.command_texts.specs.Building.{EndsCheck}
use Rattle.command_texts.specs.Checks.{CheckCause, CheckWrites}
use Rattle.command_io.specs.Configs.{RefusesConfig}
use Rattle.command_io.specs.Endings.{IsComplete, IsDoneOrMemory, IsReadOnce, ReadsFiles, TookMore, status_of}
use Rattle.command_io.specs.Fetches.{IsFetchFault, ending_of_fetch}
use Rattle.command_io.specs.Files.{ReadMore, good_read}
use Rattle.ports.specs.Writing.{SinkReport}
use Rattle.command_io.specs.hub_meaning.Verdicts.{PatternsReport}
use Rattle.command_io.proofs.ConfigLaws.{GivesConfig, config_not_refused, for_config, refuses_pattern}
use Rattle.command_io.proofs.EndingLaws.{not_over}
use Rattle.command_io.proofs.ReadLaws.{read_alone}

-- ---- where there is no configuration

pub check_cause_fault : (name : List ℕ) (shown : Bor (List ℕ)) (store store' : StoreReport) (fault : FetchFault)
    → shown.now ≡ name
    → IsFetchFault name store store' fault → CheckCause name store store' (ending_of_fetch shown fault)
check_cause_fault name shown store store' (fetch.Config (Refused place why)) is cause = tt
check_cause_fault name shown store store' (fetch.File file.Unread) is cause = (is, cause.1)
check_cause_fault name shown store store' (fetch.File file.TooLong) is cause = (cause.0, is, refl, cause.2)
check_cause_fault name shown store store' (fetch.File file.Memory) is cause = inl cause
check_cause_fault name shown store store' (fetch.Config Memory) is cause = inr cause

pub check_writes_fault : (name : List ℕ) (shown : Bor (List ℕ)) (store store' : StoreReport) (patterns : PatternsReport)
    (out : SinkReport) (fault : FetchFault) → IsFetchFault name store store' fault
    → CheckWrites name store store' patterns patterns out out (ending_of_fetch shown fault)
check_writes_fault name shown store store' patterns out (fetch.Config (Refused place why)) cause = ((cause, refl), refl)
check_writes_fault name shown store store' patterns out (fetch.File file.Unread) cause = (refl, refl)
check_writes_fault name shown store store' patterns out (fetch.File _) cause = (refl, refl)
check_writes_fault name shown store store' patterns out (fetch.Config Memory) cause = (refl, refl)

-- ---- once it has its configuration

pub check_cause : (name : List ℕ) (store store' : StoreReport) (config : Config) (patterns patterns' : PatternsReport)
    (out out' : SinkReport) (ending : Ending) → GivesConfig name store store' config
    → EndsCheck config patterns patterns' out out' ending → CheckCause name store store' ending
check_cause name store store' config patterns patterns' out out' Finished given ends = tt
check_cause name store store' config patterns patterns' out out' (ConfigRefused refusal) given ends = tt
check_cause name store store' config patterns patterns' out out' WriteFailed given ends = tt
check_cause name store store' config patterns patterns' out out' OutOfMemory given ends = inr (given.0, given.1)
check_cause name store store' config patterns patterns' out out' _ given ends = absurd ends

pub check_took : (config : Config) (patterns patterns' : PatternsReport) (out out' : SinkReport) (ending : Ending)
    (taken taken' : ℕ)
    → EndsCheck config patterns patterns' out out' ending → TookMore ending taken taken'
check_took config patterns patterns' out out' (OverLimit over limit) taken taken' ends = absurd ends
check_took config patterns patterns' out out' _ taken taken' ends = tt

config_refuses : (name : List ℕ) (store store' : StoreReport) (config : Config) (refusal : ConfigRefusal) (patterns patterns' : PatternsReport)
    (out out' : SinkReport)
    → GivesConfig name store store' config
    → EndsCheck config patterns patterns' out out' (ConfigRefused refusal)
    → RefusesConfig name store store' patterns patterns' refusal × (out' ≡ out)
config_refuses name store store' config (refusals.Refused place why) patterns patterns' out out' given ends = absurd ends
config_refuses name store store' config (refusals.Pattern number) patterns patterns' out out' given ends =
    (refuses_pattern name store store' config number patterns patterns' given ends.0, ends.1)

pub check_writes : (name : List ℕ) (store store' : StoreReport) (config : Config) (patterns patterns' : PatternsReport) (out out' : SinkReport)
    (ending : Ending)
    → GivesConfig name store store' config
    → EndsCheck config patterns patterns' out out' ending → CheckWrites name store store' patterns patterns' out out' ending
check_writes name store store' config patterns patterns' out out' Finished given ends =
    (for_config name store store' config _ given (ends.0, ends.1), ends.3)
check_writes name store store' config patterns patterns' out out' WriteFailed given ends =
    (for_config name store store' config _ given (ends.0, ends.1), ends.2, ends.3)
check_writes name store store' config patterns patterns' out out' (ConfigRefused refusal) given ends =
    config_refuses name store store' config refusal patterns patterns' out out' given ends
check_writes name store store' config patterns patterns' out out' OutOfMemory given ends = ends
check_writes name store store' config patterns patterns' out out' _ given ends = absurd ends

pub check_quiet : (config : Config) (patterns patterns' : PatternsReport) (out out' : SinkReport) (ending : Ending)
    → EndsCheck config patterns patterns' out out' ending → IsComplete ending → out'.faults ≡ out.faults
check_quiet config patterns patterns' out out' Finished ends complete = ends.2
check_quiet config patterns patterns' out out' (BytesLeft count) ends complete = absurd ends
check_quiet config patterns patterns' out out' LinksFailed ends complete = absurd ends
check_quiet config patterns patterns' out out' (ScriptRefused line) ends complete = absurd ends
check_quiet config patterns patterns' out out' _ ends complete = absurd complete

pub check_not_read : (config : Config) (patterns patterns' : PatternsReport) (out out' : SinkReport) (ending : Ending)
    → EndsCheck config patterns patterns' out out' ending → status_of ending ≡ ReadFault → ⊥
check_not_read config patterns patterns' out out' (Unread unread) ends e = ends
check_not_read config patterns patterns' out out' _ ends e = cc

pub check_rose : (config : Config) (patterns patterns' : PatternsReport) (out out' : SinkReport) (ending : Ending)
    → EndsCheck config patterns patterns' out out' ending → status_of ending ≡ SinkFault → Rose out.faults out'.faults
check_rose config patterns patterns' out out' (Unread unread) ends e = absurd ends
check_rose config patterns patterns' out out' WriteFailed ends e = ends.2
check_rose config patterns patterns' out out' _ ends e = cc

-- it calls no link that could fail
pub links_not_called : (name : List ℕ) (store store' : StoreReport) (ending : Ending) → CheckCause name store store' ending
    → status_of ending ≡ LinkFault → ⊥
links_not_called name store store' LinksFailed cause e = cause
links_not_called name store store' _ cause e = cc

-- ---- completeness

pub check_complete : (name : List ℕ) (store store' : StoreReport) (text : List ℕ) (read : Config)
    (patterns patterns' : PatternsReport) (out out' : SinkReport) (reads reads' : ℕ) (ending : Ending)
    → IsHeld (store.held name) text → IsConfigOf text read → length text ≤ CONFIG_LIMIT → CheckCause name store store' ending
    → CheckWrites name store store' patterns patterns' out out' ending
    → (status_of ending ≡ ReadFault → Rose reads reads') → (status_of ending ≡ SinkFault → Rose out.faults out'.faults)
    → IsStill reads reads' → IsStill out.faults out'.faults → IsStill patterns.refusals patterns'.refusals
    → IsDoneOrMemory (status_of ending)
check_complete name store store' text read patterns patterns' out out' reads reads' Finished holds is fits cause writes
    read_rose put_rose reads_still puts_still still =
    tt
check_complete name store store' text read patterns patterns' out out' reads reads' OutOfMemory holds is fits cause writes
    read_rose put_rose reads_still puts_still still =
    tt
check_complete name store store' text read patterns patterns' out out' reads reads' WriteFailed holds is fits cause writes
    read_rose put_rose reads_still puts_still still =
    omega (arith, put_rose refl, puts_still.0, puts_still.1)
check_complete name store store' text read patterns patterns' out out' reads reads' (Unread unread) holds is fits cause
    writes read_rose put_rose reads_still puts_still still =
    omega (arith, read_rose refl, reads_still.0, reads_still.1)
check_complete name store store' text read patterns patterns' out out' reads reads' (ConfigRefused refusal) holds is fits
    cause writes read_rose put_rose reads_still puts_still still =
    config_not_refused name store store' text read refusal patterns patterns' holds is still writes.0
check_complete name store store' text read patterns patterns' out out' reads reads' (OverLimit over limit) holds is fits
    cause writes read_rose put_rose reads_still puts_still still =
    not_over (store.held name) text CONFIG_LIMIT holds fits cause.0
check_complete name store store' text read patterns patterns' out out' reads reads' _ holds is fits cause writes read_rose put_rose reads_still puts_still still =
    cause

-- ---- what it read

pub check_reads : (old new : Option (List StoreRead)) (name : List ℕ) (config : Config)
    (patterns patterns' : PatternsReport) (out out' : SinkReport) (ending : Ending)
    → EndsCheck config patterns patterns' out out' ending → ReadMore (good_read name ∷ []) old new
    → ReadsFiles (name ∷ []) (IsReadOnce ending) old new ending
check_reads old new name config patterns patterns' out out' (Unread unread) ends grew = absurd ends
check_reads old new name config patterns patterns' out out' (OverLimit over limit) ends grew = absurd ends
check_reads old new name config patterns patterns' out out' (BytesLeft count) ends grew = absurd ends
check_reads old new name config patterns patterns' out out' LinksFailed ends grew = absurd ends
check_reads old new name config patterns patterns' out out' (ScriptRefused line) ends grew = absurd ends
check_reads old new name config patterns patterns' out out' OutOfMemory ends grew =
    read_alone _ old new name _ grew tt (refl, tt)
check_reads old new name config patterns patterns' out out' _ ends grew =
    read_alone _ old new name _ grew refl (refl, tt)
