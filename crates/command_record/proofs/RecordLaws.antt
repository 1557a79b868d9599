-- What `record` promises, from what its parts say.
use Rattle.std.proofs.Common.{◌≡◌, ◌≢◌, ℕ, ◌≤◌, List, [], ◌∷◌, length, Option, Some, inl, inr, refl, ap, sym, ◌∙◌}
use Rattle.std.proofs.Common.{subst}
use Rattle.command_setup.proofs.CommandIoReadLaws.{read_alone}
use Rattle.command_setup.proofs.SetupLaws.{refused_for_memory}
use Rattle.command_setup.specs.Setups.{run_report_of}
use Rattle.command_setup.specs.command_io.Accepting.{RefusesSetup}
use Rattle.command_setup.specs.command_io.Endings.{IsDoneOrMemory}
use Rattle.command_setup.specs.command_io.Files.{ReadMore, good_read}
use Rattle.command_setup.specs.command_io.Reports.{Reports as Reporting}
use Rattle.command_setup.specs.command_io.declared.ending.Ending.{Ending}
use Rattle.command_setup.specs.command_io.declared.ending.Ending.TheVariants.{Finished, ConfigRefused, Unread}
use Rattle.command_setup.specs.command_io.declared.ending.Ending.TheVariants.{OverLimit, BytesLeft, WriteFailed}
use Rattle.command_setup.specs.command_io.declared.ending.Ending.TheVariants.{LinksFailed, ScriptRefused, OutOfMemory}
use Rattle.command_setup.specs.command_io.declared.limits.TheConstants.{CONFIG_LIMIT}
use Rattle.command_setup.specs.command_io.declared.status.Status.TheVariants.{ReadFault}
use Rattle.command_setup.specs.hub_meaning.Verdicts.{PatternsReport}
use Rattle.command_setup.specs.hub_run.Runs.{RunReport}
use Rattle.command_setup.specs.hub_run.declared.setup.Setup.{Setup}
use Rattle.command_setup.specs.sexp_config.Config.{IsConfigOf}
use Rattle.command_setup.specs.sexp_config.declared.config.Config.{Config}
use Rattle.disk_port.specs.Calls.{DiskReport}
use Rattle.disk_port.specs.Past.{Past, text_of}
use Rattle.ports.specs.Calls.{LinksReport}
use Rattle.ports.specs.Counts.{IsStill}
use Rattle.ports.specs.Reading.{IsHeld, StoreReport}
use Rattle.ports.specs.declared.store.StoreRead.{StoreRead}
use Rattle.turn_journal.specs.Beginning.{IsFree, IsWhyTaken}
use Rattle.turn_journal.specs.declared.fault.JournalFault.TheVariants as fault
use Rattle.command_record.specs.Endings.{IsComplete, status_of}
use Rattle.command_record.specs.Reading.{ReadsConfig}
use Rattle.command_record.specs.Records.{RecordEnds}
use Rattle.command_record.specs.Running.{HasCauses, IsUnbegun, RecordingEnds}
use Rattle.command_record.specs.declared.ending.JournalEnding.{JournalEnding}
use Rattle.command_record.specs.declared.ending.JournalEnding.TheVariants.{Shared, Refused, DiskFailed}
use Rattle.command_record.proofs.CauseLaws.{AreStill, fault_complete, run_complete}

-- ---- the file of the configuration

-- it was read once
pub recorded_reads : (name : List ℕ) (old new : Option (List StoreRead)) (ending : JournalEnding)
    → status_of ending ≢ ReadFault → ReadMore (good_read name ∷ []) old new
    → ReadsConfig name old new ending
recorded_reads name old new (Shared (Unread unread)) not_read grew = absurd (not_read refl)
recorded_reads name old new (Shared OutOfMemory) not_read grew = read_alone _ old new name _ grew tt (refl, tt)
recorded_reads name old new (Shared _) not_read grew = read_alone _ old new name _ grew refl (refl, tt)
recorded_reads name old new _ not_read grew = grew

-- a command without a configuration took no turn
pub refused_not_complete : (name : List ℕ) (store store' : StoreReport) (patterns patterns' : PatternsReport)
    (shared : Ending)
    → RefusesSetup name store store' patterns patterns' shared → IsComplete (Shared shared) → ⊥
refused_not_complete name store store' patterns patterns' Finished refuses complete = refuses
refused_not_complete name store store' patterns patterns' _ refuses complete = complete

-- ---- completeness

module _ (journal text : List ℕ) (setup : Setup) (links links' : LinksReport) (disk disk' : DiskReport)
    (old new : RunReport) (ending : JournalEnding) (past : Past)
    (told : disk.past ≡ Some past) (free : IsFree (text_of past)) where
  -- the file is not refused, since it is free
  accepted : (unbegun : IsUnbegun journal text links links' disk disk' old new ending) (place : ℕ)
      → unbegun.fault ≡ fault.Refused place → ⊥
  accepted unbegun place is =
      let why = subst (IsWhyTaken (text_of past)) is (let refused = unbegun.begins.refused in refused past told) in
      absurd (cc (why.1, free))

  pub recording_complete : AreStill links.faults links'.faults old.sink.faults new.sink.faults disk.faults disk'.faults
      → HasCauses links.faults links'.faults old.sink.faults new.sink.faults disk.faults disk'.faults ending
      → RecordingEnds journal text setup links links' disk disk' old new ending → IsDoneOrMemory (status_of ending)
  recording_complete still causes ends = elim ends [
    | inl unbegun ↦
        subst (λ (e : JournalEnding). HasCauses links.faults links'.faults old.sink.faults new.sink.faults disk.faults
        disk'.faults e
        → IsDoneOrMemory (status_of e))
        (sym unbegun.ended)
        (λ same. fault_complete links.faults links'.faults old.sink.faults new.sink.faults disk.faults disk'.faults
        still unbegun.fault same (accepted unbegun))
        causes
    | inr recorded ↦
        subst (λ (e : JournalEnding). HasCauses links.faults links'.faults old.sink.faults new.sink.faults disk.faults
        disk'.faults e
        → IsDoneOrMemory (status_of e))
        (sym recorded.ended)
        (run_complete links.faults links'.faults old.sink.faults new.sink.faults disk.faults disk'.faults still
        recorded.result)
        causes
  ]

pub record_complete : (config journal text : List ℕ) (read : Config) (past : Past) (old new : Reporting)
    (disk disk' : DiskReport) (ending : JournalEnding)
    → IsHeld (old.store.held config) text → IsConfigOf text read → length text ≤ CONFIG_LIMIT → disk.past ≡ Some past
    → IsFree (text_of past)
    → IsStill old.store.faults new.store.faults
    → AreStill old.links.faults new.links.faults old.out.faults new.out.faults disk.faults disk'.faults
    → IsStill old.patterns.refusals new.patterns.refusals
    → HasCauses old.links.faults new.links.faults old.out.faults new.out.faults disk.faults disk'.faults ending
    → RecordEnds config journal old new disk disk' ending → IsDoneOrMemory (status_of ending)
record_complete config journal text read past old new disk disk' ending holds is fits told free reads_still still
    patterns_still causes ends =
    elim ends [
      | inl none ↦
          let e =
          refused_for_memory config text read old.store new.store old.patterns new.patterns none.shared holds is fits
          reads_still patterns_still none.refuses in
          subst (λ (e : JournalEnding). IsDoneOrMemory (status_of e)) (sym (none.ended ∙ ap Shared e)) tt
      | inr records ↦
          recording_complete journal records.text records.setup old.links new.links disk disk'
          (run_report_of old old.out)
          (run_report_of new new.out) ending past told free
          still causes records.ends
    ]
