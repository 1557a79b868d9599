-- What is known once a script was played, from what its run and the lines of the links say.
use Rattle.std.proofs.Common.{◌≡◌, ◌≢◌, List, inl, inr}
use Rattle.std.specs.Prelude.{Result, Err}
use Rattle.ports.specs.Writing.{SinkReport}
use Rattle.command_setup.specs.command_io.Reports.{Reports}
use Rattle.command_setup.specs.command_io.declared.ending.Ending.{Ending}
use Rattle.command_setup.specs.command_io.declared.ending.Ending.TheVariants.{Finished, ConfigRefused, Unread, OverLimit}
use Rattle.command_setup.specs.command_io.declared.ending.Ending.TheVariants.{BytesLeft, WriteFailed, LinksFailed}
use Rattle.command_setup.specs.command_io.declared.ending.Ending.TheVariants.{ScriptRefused, OutOfMemory}
use Rattle.command_setup.specs.Endings.{ending_of_fault}
use Rattle.command_setup.specs.Setups.{run_report_of}
use Rattle.command_files.specs.Files.{IsAfterRun}
use Rattle.command_files.specs.Runs.{RunsScript, RunsWhole}
use Rattle.command_setup.specs.hub_run.declared.fault.RunFault.{RunFault}
use Rattle.command_setup.specs.hub_run.declared.fault.RunFault.TheVariants as cause
use Rattle.command_setup.specs.hub_run.declared.setup.Setup.{Setup}
use Rattle.script_text.specs.LinkLines.{link_lines}
use Rattle.ports.specs.Counts.{Rose}
use Rattle.ports.specs.declared.entry.Entry.{Entry}
use Rattle.ports.specs.declared.script.Script.{Script}
use Rattle.command_files.specs.Playing.{WritesLines}
use Rattle.command_files.specs.Replays.{PlayEnds}

-- a run that this fault cut off, which is not one of the links
pub play_cut : {T : Type 0} (setup : Setup) (script : Script) (old new : Reports) (run : List Entry)
    (ran : Result T RunFault) (fault : RunFault)
    → ran ≡ Err fault → RunsScript setup script (run_report_of old old.out) (run_report_of new new.out) (Err fault) run
    → ran ≢ Err cause.Links
    → (ran ≡ Err cause.Sink → Rose old.out.faults new.out.faults)
    → (ran ≢ Err cause.Sink → new.out.faults ≡ old.out.faults)
    → PlayEnds setup script old new (ending_of_fault fault)
play_cut setup script old new run ran cause.Links is cut works rose quiet = absurd (works is)
play_cut setup script old new run ran cause.Sink is cut works rose quiet =
    (rose is, inl (record { run = run; ran = cut }))
play_cut setup script old new run ran cause.Memory is cut works rose quiet =
    (quiet (λ sink. cc), inl (record { run = run; ran = cut }))

pub run_was_cut : {T : Type 0} (ran : Result T RunFault) (fault : RunFault) → ran ≡ Err fault → ran ≢ Err cause.Links
    → IsAfterRun (ending_of_fault fault)
run_was_cut ran cause.Links is works = works is
run_was_cut ran _ is works = tt

-- after a whole run the lines were written, or a prefix of them
pub play_ended : (setup : Setup) (script : Script) (old new : Reports) (before : SinkReport) (run : List Entry)
    (ending : Ending)
    → RunsWhole setup script (run_report_of old old.out) (run_report_of new before) run → before.faults ≡ old.out.faults
    → WritesLines (link_lines script run) before new.out ending → PlayEnds setup script old new ending
play_ended setup script old new before run Finished ran same writes =
    record { run = run; before = before; ran = ran; wrote = writes.0 }
play_ended setup script old new before run WriteFailed ran same writes =
    (rw same at writes.1, inr (record { run = run; before = before; ran = ran; wrote = writes.0 }))
play_ended setup script old new before run OutOfMemory ran same writes =
    (rw same at writes.1, inr (record { run = run; before = before; ran = ran; wrote = writes.0 }))
play_ended setup script old new before run _ ran same writes = absurd writes
