-- What `resume` promises, from what its parts say.
use Rattle.std.proofs.Common.{◌≡◌, ◌≢◌, ℕ, List, Some, inl, inr, refl, ap, sym, ◌∙◌, subst, arith}
use Rattle.command_setup.specs.Setups.{RefusesText}
use Rattle.command_setup.specs.command_io.Endings.{IsDoneOrMemory}
use Rattle.command_setup.specs.command_io.declared.ending.ConfigRefusal.TheVariants as refusal
use Rattle.command_setup.specs.command_io.declared.ending.Ending.{Ending}
use Rattle.command_setup.specs.command_io.declared.ending.Ending.TheVariants.{ConfigRefused, OutOfMemory}
use Rattle.command_setup.specs.command_io.declared.status.Status.TheVariants.{ReadFault}
use Rattle.command_setup.specs.hub_meaning.Verdicts.{PatternsReport}
use Rattle.command_setup.specs.hub_run.Runs.{RunReport}
use Rattle.command_setup.specs.sexp_config.Config.{IsConfigOf}
use Rattle.command_setup.specs.sexp_config.declared.config.Config.{Config}
use Rattle.disk_port.specs.Calls.{DiskReport}
use Rattle.disk_port.specs.Past.{Past, text_of}
use Rattle.journal_format.proofs.OneLaws.{journals_one, misfits_none}
use Rattle.journal_format.specs.Journals.{Holds, Journal}
use Rattle.ports.specs.Calls.{LinksReport}
use Rattle.ports.specs.Counts.{IsStill}
use Rattle.turn_journal.specs.Loading.{IsWhyRefused}
use Rattle.turn_journal.specs.declared.fault.JournalFault.TheVariants as fault
use Rattle.command_record.specs.Endings.{status_of}
use Rattle.command_record.specs.Resuming.{IsLoadedFrom, IsUnloaded, ResumingEnds}
use Rattle.command_record.specs.Running.{HasCauses}
use Rattle.command_record.specs.declared.ending.JournalEnding.{JournalEnding}
use Rattle.command_record.specs.declared.ending.JournalEnding.TheVariants.{Shared}
use Rattle.command_record.proofs.CauseLaws.{AreStill, fault_complete, run_complete}

pub text_not_read : (text : List ℕ) (patterns patterns' : PatternsReport) (shared : Ending)
    → RefusesText text patterns patterns' shared → status_of (Shared shared) ≢ ReadFault
text_not_read text patterns patterns' (ConfigRefused cause) refuses e = cc
text_not_read text patterns patterns' OutOfMemory refuses e = cc
text_not_read text patterns patterns' _ refuses e = absurd refuses

-- a text that is a configuration is refused only for lack of memory, where no pattern is refused
text_for_memory : (text : List ℕ) (read : Config) (patterns patterns' : PatternsReport) (shared : Ending)
    → IsConfigOf text read
    → IsStill patterns.refusals patterns'.refusals → RefusesText text patterns patterns' shared → shared ≡ OutOfMemory
text_for_memory text read patterns patterns' (ConfigRefused (refusal.Refused place why)) is still refuses =
    absurd (let refused = refuses.0 in refused.unread read is)
text_for_memory text read patterns patterns' (ConfigRefused (refusal.Pattern number)) is still refuses =
    absurd (let refused = refuses.2 in let rose = refused.rose in omega (arith, rose, still.0, still.1))
text_for_memory text read patterns patterns' OutOfMemory is still refuses = refl
text_for_memory text read patterns patterns' _ is still refuses = absurd refuses

module _ (name : List ℕ) (past : Past) (journal : Journal) (read : Config) (links links' : LinksReport)
    (disk disk' : DiskReport) (old new : RunReport) (ending : JournalEnding)
    (told : disk.past ≡ Some past) (holds : Holds journal (text_of past)) (is : IsConfigOf journal.config read) where
  -- the file holds a journal, so it is not refused
  accepted : (unloaded : IsUnloaded name links links' disk disk' old new ending) (place : ℕ)
      → unloaded.fault ≡ fault.Refused place → ⊥
  accepted unloaded place refused =
      let why =
      subst (IsWhyRefused (text_of past)) refused
      (let loads = unloaded.loads in let refuses = loads.refused in refuses past told) in
      misfits_none journal (text_of past) place holds why

  -- the configuration that was loaded is that of the journal
  same_config : (from : IsLoadedFrom name links links' disk disk' old new ending) → from.loaded.config ≡ journal.config
  same_config from =
      let loads = from.loads in
      let resumes = loads.loaded past told in
      let stands = resumes.stands in
      let one =
      journals_one resumes.journal journal from.loaded.found.gate holds.0 (text_of past) stands.holds holds.1 in
      resumes.config_is ∙ ap (λ (j : Journal). j.config) one.0

  pub resume_complete : AreStill links.faults links'.faults old.sink.faults new.sink.faults disk.faults disk'.faults
      → IsStill old.patterns.refusals new.patterns.refusals
      → HasCauses links.faults links'.faults old.sink.faults new.sink.faults disk.faults disk'.faults ending
      → ResumingEnds name links links' disk disk' old new ending → IsDoneOrMemory (status_of ending)
  resume_complete still patterns_still causes ends = elim ends [
    | inl unloaded ↦
        subst (λ (e : JournalEnding). HasCauses links.faults links'.faults old.sink.faults new.sink.faults disk.faults
        disk'.faults e
        → IsDoneOrMemory (status_of e))
        (sym unloaded.ended)
        (λ same. fault_complete links.faults links'.faults old.sink.faults new.sink.faults disk.faults disk'.faults
        still unloaded.fault same (accepted unloaded))
        causes
    | inr from ↦ elim from.goes [
      | inl unset ↦
          let config : IsConfigOf from.loaded.config read =
          subst (λ (text : List ℕ). IsConfigOf text read) (sym (same_config from)) is in
          let memory =
          text_for_memory from.loaded.config read old.patterns new.patterns unset.shared config patterns_still
          unset.refuses in
          subst (λ (e : JournalEnding). IsDoneOrMemory (status_of e)) (sym (unset.ended ∙ ap Shared memory)) tt
      | inr resumed ↦
          subst (λ (e : JournalEnding). HasCauses links.faults links'.faults old.sink.faults new.sink.faults disk.faults
          disk'.faults e
          → IsDoneOrMemory (status_of e))
          (sym resumed.ended)
          (run_complete links.faults links'.faults old.sink.faults new.sink.faults disk.faults disk'.faults still
          resumed.result)
          causes
    ]
  ]
