-- What is known once bytes were fed, from what the run and the replies say.
use Rattle.std.proofs.Common.{◌≡◌, ◌≢◌, ℕ, List, [], ◌∷◌, length, refl, ap, ◌∙◌, inl, inr, subst, arith}
use Rattle.std.specs.Prelude.{Result, Err}
use Rattle.command_setup.specs.command_io.Reports.{Reports}
use Rattle.command_setup.specs.command_io.declared.ending.Ending.{Ending}
use Rattle.command_setup.specs.command_io.declared.ending.Ending.TheVariants.{Finished, ConfigRefused, Unread, OverLimit}
use Rattle.command_setup.specs.command_io.declared.ending.Ending.TheVariants.{BytesLeft, WriteFailed, LinksFailed}
use Rattle.command_setup.specs.command_io.declared.ending.Ending.TheVariants.{ScriptRefused, OutOfMemory}
use Rattle.command_setup.specs.Endings.{ending_of_fault}
use Rattle.command_setup.specs.Setups.{run_report_of}
use Rattle.command_files.specs.Files.{IsAfterRun}
use Rattle.command_files.specs.Runs.{RunsScript, RunsWhole}
use Rattle.framing.specs.Frames.{partial}
use Rattle.command_setup.specs.hub_meaning.Runs.{state_after}
use Rattle.command_setup.specs.hub_run.Runs.{config_at, opening}
use Rattle.command_setup.specs.hub_run.Taken.{steps_of}
use Rattle.command_setup.specs.hub_run.declared.fault.RunFault.{RunFault}
use Rattle.command_setup.specs.hub_run.declared.fault.RunFault.TheVariants as cause
use Rattle.command_setup.specs.hub_run.declared.setup.Setup.{Setup}
use Rattle.ports.specs.Counts.{Rose}
use Rattle.ports.specs.Pieces.{feed_script}
use Rattle.ports.specs.Playing.{bytes_taken}
use Rattle.ports.specs.Writing.{Got, GotPrefix}
use Rattle.ports.specs.declared.entry.Entry.{Entry}
use Rattle.ports.specs.declared.links.TheConstants.{PIECE_LIMIT}
use Rattle.command_setup.specs.hub_run.Laws.{FeedsAreAnswered}
use Rattle.command_setup.specs.hub_run.TakenBytes.{replies_on}
use Rattle.command_files.specs.Feeding.{WritesReplies}
use Rattle.command_files.specs.Feeds.{BytesEnd, FeedsAll}

pub nothing_left : (rest : List ℕ) → 0 ≡ length rest → rest ≡ []
nothing_left [] e = refl
nothing_left (byte ∷ rest) e = absurd (omega arith)

pub some_left : (rest : List ℕ) (left : ℕ) → left ≡ length rest → (left ≡ 0 → ⊥) → rest ≡ [] → ⊥
some_left rest left e positive nothing = positive (let none : length rest ≡ 0 = rw nothing refl in omega arith)

-- after a run to its last turn, in which all notice lines were written, this was written of the replies
fed_all : FeedsAreAnswered
    → (setup : Setup) (bytes : List ℕ) (old new : Reports) (run : List Entry) (Wrote : List ℕ → Type 0)
    → RunsWhole setup (feed_script PIECE_LIMIT bytes) (run_report_of old old.err) (run_report_of new new.err) run
    → new.err.faults ≡ old.err.faults → Wrote (bytes_taken 0 run) → FeedsAll setup bytes old new Wrote
fed_all answered setup bytes old new run Wrote whole quiet wrote =
    let ran = whole.1 in
    let took = ran.ran.took in
    let config = config_at setup ran.ran.secs in
    let are = ran.ran.opens ∙ ap (λ calls. opening setup ran.ran.secs ∷ calls) took.are in
    let all : bytes_taken 0 run ≡ replies_on 0 (state_after config (steps_of took.turns)).links
    = rw are (answered config PIECE_LIMIT bytes setup.address ran.ran.secs took.turns (rw are at ran.scripted)
    took.takes.legal took.takes.settled) in
    record {
      run = run;
      scripted = ran.scripted;
      hub = whole.0;
      ran = ran.ran;
      wrote = subst Wrote all wrote;
      all_lines = quiet;
    }

-- a run that this fault cut off, which is not one of the links
pub bytes_cut : {T : Type 0} (setup : Setup) (bytes : List ℕ) (old new : Reports) (run : List Entry)
    (ran : Result T RunFault) (fault : RunFault)
    → ran ≡ Err fault
    → RunsScript setup (feed_script PIECE_LIMIT bytes) (run_report_of old old.err) (run_report_of new new.err)
    (Err fault) run
    → new.out ≡ old.out → ran ≢ Err cause.Links → (ran ≡ Err cause.Sink → Rose old.err.faults new.err.faults)
    → (ran ≢ Err cause.Sink → new.err.faults ≡ old.err.faults) → BytesEnd setup bytes old new (ending_of_fault fault)
bytes_cut setup bytes old new run ran cause.Links is cut same works rose quiet = absurd (works is)
bytes_cut setup bytes old new run ran cause.Sink is cut same works rose quiet =
    inl (record { run = run; ran = cut; no_reply = same }, rose is)
bytes_cut setup bytes old new run ran cause.Memory is cut same works rose quiet =
    inr (record { run = run; ran = cut; no_reply = same }, quiet (λ sink. cc))

pub run_was_cut : {T : Type 0} (ran : Result T RunFault) (fault : RunFault) → ran ≡ Err fault → ran ≢ Err cause.Links
    → IsAfterRun (ending_of_fault fault)
run_was_cut ran cause.Links is works = works is
run_was_cut ran _ is works = tt

-- after a whole run the replies were written, or a prefix of them
pub bytes_ended : FeedsAreAnswered
    → (setup : Setup) (bytes : List ℕ) (old new : Reports) (run : List Entry) (ending : Ending)
    → RunsWhole setup (feed_script PIECE_LIMIT bytes) (run_report_of old old.err) (run_report_of new new.err) run
    → new.err.faults ≡ old.err.faults → WritesReplies (bytes_taken 0 run) (partial bytes) old.out new.out ending
    → BytesEnd setup bytes old new ending
bytes_ended answered setup bytes old new run Finished whole quiet writes = (
  fed_all answered setup bytes old new run (λ replies. Got old.out.text replies new.out.text) whole quiet writes.1,
  writes.0,
)
bytes_ended answered setup bytes old new run (BytesLeft count) whole quiet writes = (
  fed_all answered setup bytes old new run (λ replies. Got old.out.text replies new.out.text) whole quiet writes.2,
  writes.0,
  writes.1,
)
bytes_ended answered setup bytes old new run WriteFailed whole quiet writes =
    inr (
      fed_all answered setup bytes old new run (λ replies. GotPrefix old.out.text replies new.out.text) whole quiet
          writes.0,
      writes.1,
    )
bytes_ended answered setup bytes old new run _ whole quiet writes = absurd writes
