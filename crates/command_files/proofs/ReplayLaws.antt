-- What `replay` promises, from what its parts say.
use Rattle.std.proofs.Common.{◌≡◌, ℕ, ◌≤◌, List, length, inl, inr, subst, arith}
use Rattle.std.specs.Prelude.{Ok}
use Rattle.command_setup.specs.command_io.Endings.{IsDoneOrMemory, status_of}
use Rattle.command_setup.proofs.CommandIoEndingLaws.{held_since, rose_since, still_since}
use Rattle.ports.specs.Calls.{LinksReport}
use Rattle.ports.specs.Writing.{SinkReport}
use Rattle.command_setup.specs.command_io.Reports.{Reports, reports}
use Rattle.command_setup.specs.command_io.declared.ending.Ending.{Ending}
use Rattle.command_setup.specs.command_io.declared.ending.Ending.TheVariants.{Finished, ConfigRefused, Unread, OverLimit}
use Rattle.command_setup.specs.command_io.declared.ending.Ending.TheVariants.{BytesLeft, WriteFailed, LinksFailed}
use Rattle.command_setup.specs.command_io.declared.ending.Ending.TheVariants.{ScriptRefused, OutOfMemory}
use Rattle.command_setup.specs.command_io.declared.limits.TheConstants.{CONFIG_LIMIT, FILE_LIMIT}
use Rattle.command_setup.specs.command_io.declared.status.Status.TheVariants.{ReadFault, SinkFault, LinkFault}
use Rattle.command_setup.proofs.SetupLaws.{refused_for_memory, refused_not_linked, refused_not_written, refused_rose}
use Rattle.command_setup.specs.Setups.{SetsUp}
use Rattle.command_files.specs.Files.{ReadsBoth}
use Rattle.command_setup.specs.hub_meaning.Verdicts.{PatternsReport}
use Rattle.command_setup.specs.hub_run.declared.setup.Setup.{Setup}
use Rattle.ports.specs.Counts.{IsStill, Rose}
use Rattle.ports.specs.Reading.{IsHeld, StoreReport}
use Rattle.ports.specs.declared.script.Script.{Script}
use Rattle.script_text.specs.Scripts.{script_of}
use Rattle.command_setup.specs.sexp_config.declared.config.Config.{Config}
use Rattle.command_setup.specs.sexp_config.Config.{IsConfigOf}
use Rattle.command_files.proofs.ScriptLaws.{script_refused_for_memory, script_rose}
use Rattle.command_files.specs.Replays.{PlayEnds, ReplayEnds, ScriptEnds}
use Rattle.command_files.specs.Scripts.{RefusesScript}

-- the configuration was accepted, and then the script was refused or played
pub replay_ended : (config script : List ℕ) (setup : Setup) (store mid store' : StoreReport) (links : LinksReport)
    (out out' err err' : SinkReport)
    (patterns between patterns' : PatternsReport) (forks forks' : ℕ) (Unasked : Type 0) (ending : Ending)
    → SetsUp config store mid setup → between ≡ patterns
    → ReadsBoth config script store.reads store'.reads ending
    → ScriptEnds setup script (reports mid links out err between forks)
    (reports store' links out' err' patterns' forks') ending
    → ReplayEnds config script (reports store links out err patterns forks)
    (reports store' links out' err' patterns' forks') Unasked ending
replay_ended config script setup store mid store' links out out' err err' patterns between patterns' forks forks'
    Unasked ending sets same reads ends =
    inr (
      setup,
      mid,
      sets,
      reads,
      subst
          (λ state. ScriptEnds setup script (reports mid links out err state forks)
          (reports store' links out' err' patterns' forks') ending)
          same ends,
    )

-- ---- how a run does not end

play_not_read : (setup : Setup) (script : Script) (old new : Reports) (ending : Ending)
    → PlayEnds setup script old new ending → status_of ending ≡ ReadFault → ⊥
play_not_read setup script old new Finished ends e = cc
play_not_read setup script old new WriteFailed ends e = cc
play_not_read setup script old new OutOfMemory ends e = cc
play_not_read setup script old new _ ends e = ends

play_not_linked : (setup : Setup) (script : Script) (old new : Reports) (ending : Ending)
    → PlayEnds setup script old new ending → status_of ending ≡ LinkFault → ⊥
play_not_linked setup script old new Finished ends e = cc
play_not_linked setup script old new WriteFailed ends e = cc
play_not_linked setup script old new OutOfMemory ends e = cc
play_not_linked setup script old new _ ends e = ends

script_not_linked : (name : List ℕ) (old new : StoreReport) (ending : Ending) → RefusesScript name old new ending
    → status_of ending ≡ LinkFault → ⊥
script_not_linked name old new LinksFailed refuses e = refuses
script_not_linked name old new _ refuses e = cc

script_not_written : (name : List ℕ) (old new : StoreReport) (ending : Ending) → RefusesScript name old new ending
    → status_of ending ≡ SinkFault → ⊥
script_not_written name old new WriteFailed refuses e = refuses
script_not_written name old new _ refuses e = cc

-- ---- the causes of faults

play_wrote : (setup : Setup) (script : Script) (old new : Reports) (ending : Ending)
    → PlayEnds setup script old new ending → status_of ending ≡ SinkFault
    → Rose old.out.faults new.out.faults
play_wrote setup script old new WriteFailed ends e = ends.0
play_wrote setup script old new Finished ends e = cc
play_wrote setup script old new OutOfMemory ends e = cc
play_wrote setup script old new _ ends e = absurd ends

pub replay_read_rose : (config script : List ℕ) (old new : Reports) (Unasked : Type 0) (ending : Ending)
    → ReplayEnds config script old new Unasked ending
    → status_of ending ≡ ReadFault → Rose old.store.faults new.store.faults
replay_read_rose config script old new Unasked ending ends e = elim ends [
  | inl refused ↦ refused_rose config old.store new.store old.patterns new.patterns ending refused.0 e
  | inr accepted ↦ elim accepted.4 [
    | inl refused ↦
        rose_since config accepted.2.0 old.store accepted.1 new.store.faults accepted.2.1
        (script_rose script accepted.1 new.store ending refused.0 e)
    | inr played ↦ absurd (play_not_read accepted.0 played.0 (record old { store = accepted.1 }) new ending played.2 e)
  ]
]

pub replay_sink_rose : (config script : List ℕ) (old new : Reports) (Unasked : Type 0) (ending : Ending)
    → ReplayEnds config script old new Unasked ending
    → status_of ending ≡ SinkFault → Rose old.out.faults new.out.faults
replay_sink_rose config script old new Unasked ending ends e = elim ends [
  | inl refused ↦ absurd (refused_not_written config old.store new.store old.patterns new.patterns ending refused.0 e)
  | inr accepted ↦ elim accepted.4 [
    | inl refused ↦ absurd (script_not_written script accepted.1 new.store ending refused.0 e)
    | inr played ↦ play_wrote accepted.0 played.0 (record old { store = accepted.1 }) new ending played.2 e
  ]
]

pub replay_not_linked : (config script : List ℕ) (old new : Reports) (Unasked : Type 0) (ending : Ending)
    → ReplayEnds config script old new Unasked ending
    → status_of ending ≡ LinkFault → ⊥
replay_not_linked config script old new Unasked ending ends e = elim ends [
  | inl refused ↦ refused_not_linked config old.store new.store old.patterns new.patterns ending refused.0 e
  | inr accepted ↦ elim accepted.4 [
    | inl refused ↦ script_not_linked script accepted.1 new.store ending refused.0 e
    | inr played ↦ play_not_linked accepted.0 played.0 (record old { store = accepted.1 }) new ending played.2 e
  ]
]

-- ---- completeness

for_memory : (ending : Ending) → ending ≡ OutOfMemory → IsDoneOrMemory (status_of ending)
for_memory ending e = rw e tt

play_completes : (setup : Setup) (script : Script) (old new : Reports) (ending : Ending)
    → PlayEnds setup script old new ending
    → IsStill old.out.faults new.out.faults → IsDoneOrMemory (status_of ending)
play_completes setup script old new Finished ends still = tt
play_completes setup script old new OutOfMemory ends still = tt
play_completes setup script old new WriteFailed ends still = absurd (omega (arith, ends.0, still.0, still.1))
play_completes setup script old new _ ends still = absurd ends

pub replay_complete : (config script : List ℕ) (old new : Reports) (Unasked : Type 0) (text lines : List ℕ)
    (read : Config) (played : Script) (ending : Ending)
    → ReplayEnds config script old new Unasked ending → IsHeld (old.store.held config) text → IsConfigOf text read
    → length text ≤ CONFIG_LIMIT
    → IsHeld (old.store.held script) lines → script_of lines ≡ Ok played → length lines ≤ FILE_LIMIT
    → IsStill old.store.faults new.store.faults → IsStill old.out.faults new.out.faults
    → IsStill old.patterns.refusals new.patterns.refusals
    → IsDoneOrMemory (status_of ending)
replay_complete config script old new Unasked text lines read played ending ends holds is fits holds_lines is_script
    lines_fit reads_still out_still still =
    elim ends [
      | inl refused ↦
          for_memory ending
          (refused_for_memory config text read old.store new.store old.patterns new.patterns ending holds
          is fits reads_still still refused.0)
      | inr accepted ↦ elim accepted.4 [
        | inl refused ↦
            for_memory ending
            (script_refused_for_memory script lines played accepted.1 new.store ending
            (held_since config accepted.2.0 script lines old.store accepted.1 accepted.2.1 holds_lines) is_script
            lines_fit
            (still_since config accepted.2.0 old.store accepted.1 new.store.faults accepted.2.1 reads_still)
            refused.0)
        | inr ran ↦ play_completes accepted.0 ran.0 (record old { store = accepted.1 }) new ending ran.2 out_still
      ]
    ]
