-- What `load` promises, from what its parts say.
use Rattle.std.proofs.Common.{◌≡◌, ℕ, ◌≤◌, List, length, sym, subst, inl, inr, arith}
use Rattle.command_setup.specs.hub_meaning.Verdicts.{PatternsReport}
use Rattle.command_setup.specs.hub_run.declared.setup.Setup.{Setup}
use Rattle.ports.specs.Counts.{IsStill, Rose}
use Rattle.ports.specs.Reading.{IsHeld}
use Rattle.command_setup.specs.sexp_config.declared.config.Config.{Config}
use Rattle.command_setup.specs.sexp_config.Config.{IsConfigOf}
use Rattle.command_setup.specs.command_io.declared.ending.Ending.{Ending}
use Rattle.command_setup.specs.command_io.declared.ending.Ending.TheVariants.{Finished, ConfigRefused, Unread}
use Rattle.command_setup.specs.command_io.declared.ending.Ending.TheVariants.{OverLimit, BytesLeft, WriteFailed}
use Rattle.command_setup.specs.command_io.declared.ending.Ending.TheVariants.{LinksFailed, ScriptRefused, OutOfMemory}
use Rattle.command_setup.specs.command_io.declared.limits.TheConstants.{CONFIG_LIMIT}
use Rattle.command_setup.specs.command_io.declared.status.Status.TheVariants.{ReadFault, SinkFault, LinkFault}
use Rattle.command_setup.specs.command_io.Endings.{IsDoneOrMemory, status_of}
use Rattle.ports.specs.Writing.{SinkReport}
use Rattle.command_setup.specs.command_io.Reports.{Reports as Reporting}
use Rattle.command_setup.proofs.SetupLaws.{refused_for_memory, refused_not_linked, refused_not_written, refused_rose}
use Rattle.command_serve.specs.Loads.{LoadEnds, RunEnds, WritesSummary}
use Rattle.command_serve.specs.declared.summary.Summary.{Summary}

-- ---- how it ends after a run

-- all was written, a write failed with this cause, or memory ran out
abbrev pub AfterRun : SinkReport → SinkReport → Ending → Type 0
AfterRun out out' Finished = out'.faults ≡ out.faults
AfterRun out out' WriteFailed = Rose out.faults out'.faults
AfterRun out out' OutOfMemory = Unit {0}
AfterRun out out' _ = ⊥

written_after : (summary : Summary) (out out' : SinkReport) (ending : Ending) → WritesSummary summary out out' ending
    → AfterRun out out' ending
written_after summary out out' Finished writes = writes.1
written_after summary out out' WriteFailed writes = writes.1
written_after summary out out' OutOfMemory writes = tt
written_after summary out out' _ writes = writes

pub ends_after_run : (setup : Setup) (count start : ℕ) (patterns patterns' : PatternsReport) (forks forks' : ℕ)
    (out out' : SinkReport) (ending : Ending)
    → RunEnds setup count start patterns patterns' forks forks' out out' ending → AfterRun out out' ending
ends_after_run setup count start patterns patterns' forks forks' out out' ending ends = elim ends [
  | inl cut ↦ subst (λ e. AfterRun out out' e) (sym cut.0) tt
  | inr played ↦ written_after played.0 out out' ending played.2
]

not_read_after_run : (out out' : SinkReport) (ending : Ending) → AfterRun out out' ending → status_of ending ≡ ReadFault
    → ⊥
not_read_after_run out out' Finished after e = cc
not_read_after_run out out' WriteFailed after e = cc
not_read_after_run out out' OutOfMemory after e = cc
not_read_after_run out out' _ after e = after

not_linked_after_run : (out out' : SinkReport) (ending : Ending) → AfterRun out out' ending
    → status_of ending ≡ LinkFault → ⊥
not_linked_after_run out out' Finished after e = cc
not_linked_after_run out out' WriteFailed after e = cc
not_linked_after_run out out' OutOfMemory after e = cc
not_linked_after_run out out' _ after e = after

rose_after_run : (out out' : SinkReport) (ending : Ending) → AfterRun out out' ending → status_of ending ≡ SinkFault
    → Rose out.faults out'.faults
rose_after_run out out' Finished after e = cc
rose_after_run out out' WriteFailed after e = after
rose_after_run out out' OutOfMemory after e = cc
rose_after_run out out' _ after e = absurd after

done_after_run : (out out' : SinkReport) (ending : Ending) → AfterRun out out' ending → IsStill out.faults out'.faults
    → IsDoneOrMemory (status_of ending)
done_after_run out out' Finished after still = tt
done_after_run out out' WriteFailed after still = omega (arith, after, still.0, still.1)
done_after_run out out' OutOfMemory after still = tt
done_after_run out out' _ after still = absurd after

-- ---- the command

after : (setup : Setup) (count start : ℕ) (old new : Reporting) (ending : Ending)
    → RunEnds setup count start old.patterns new.patterns old.forks new.forks old.out new.out ending
    → AfterRun old.out new.out ending
after setup count start old new ending ends =
    ends_after_run setup count start old.patterns new.patterns old.forks new.forks old.out new.out ending ends

pub load_read_rose : (config : List ℕ) (count start : ℕ) (old new : Reporting) (ending : Ending)
    → LoadEnds config count start old new ending
    → status_of ending ≡ ReadFault → Rose old.store.faults new.store.faults
load_read_rose config count start old new ending ends e = elim ends [
  | inl refused ↦ refused_rose config old.store new.store old.patterns new.patterns ending refused.0 e
  | inr ran ↦ absurd (not_read_after_run old.out new.out ending (after ran.0 count start old new ending ran.2) e)
]

pub load_sink_rose : (config : List ℕ) (count start : ℕ) (old new : Reporting) (ending : Ending)
    → LoadEnds config count start old new ending
    → status_of ending ≡ SinkFault → Rose old.out.faults new.out.faults
load_sink_rose config count start old new ending ends e = elim ends [
  | inl refused ↦ absurd (refused_not_written config old.store new.store old.patterns new.patterns ending refused.0 e)
  | inr ran ↦ rose_after_run old.out new.out ending (after ran.0 count start old new ending ran.2) e
]

pub load_not_linked : (config : List ℕ) (count start : ℕ) (old new : Reporting) (ending : Ending)
    → LoadEnds config count start old new ending
    → status_of ending ≡ LinkFault → ⊥
load_not_linked config count start old new ending ends e = elim ends [
  | inl refused ↦ refused_not_linked config old.store new.store old.patterns new.patterns ending refused.0 e
  | inr ran ↦ not_linked_after_run old.out new.out ending (after ran.0 count start old new ending ran.2) e
]

pub load_complete : (config : List ℕ) (count start : ℕ) (text : List ℕ) (read : Config) (old new : Reporting)
    (ending : Ending)
    → IsHeld (old.store.held config) text
    → IsConfigOf text read → length text ≤ CONFIG_LIMIT → IsStill old.store.faults new.store.faults
    → IsStill old.out.faults new.out.faults
    → IsStill old.patterns.refusals new.patterns.refusals → LoadEnds config count start old new ending
    → IsDoneOrMemory (status_of ending)
load_complete config count start text read old new ending holds is fits reads_still out_still still ends = elim ends [
  | inl refused ↦
      let e =
      refused_for_memory config text read old.store new.store old.patterns new.patterns ending holds is fits reads_still
      still refused.0 in
      subst (λ other. IsDoneOrMemory (status_of other)) (sym e) tt
  | inr ran ↦ done_after_run old.out new.out ending (after ran.0 count start old new ending ran.2) out_still
]
