use Rattle.std.proofs.Common.{inl, inr, refl}
use Rattle.turn_journal.proofs.AppendLaws.{ready_within}
use Rattle.command_record.proofs.CauseLaws.{run_causes, text_causes}
use Rattle.command_record.proofs.EndingLaws.{run_configured, run_not_read, run_not_refused}
use Rattle.command_record.proofs.OpeningLaws.{loaded_has_room}
use Rattle.command_record.proofs.ResumeLaws.{text_not_read}
use Rattle.command_record.proofs.resume_command.resume_loaded.Goals as goal

pub run_resumed-requires-clause-within : goal.run_resumed-requires-clause-within
run_resumed-requires-clause-within g c =
    ready_within (g.D.Disk.report c.args.disk.now).past c.args.loaded.found.gate c.args.loaded.found.has_record
    c.requires.ready

pub run_resumed-requires-clause-room : goal.run_resumed-requires-clause-room
run_resumed-requires-clause-room g c = loaded_has_room c.args.loaded.found c.requires.blank

pub returns-in-Ok-clause-ends : goal.returns-in-Ok-clause-ends
returns-in-Ok-clause-ends g c = rw c.ending_of_run.ensures (inr (record {
  setup = c.in-Ok.setup;
  sets = rw c.as_slice.ensures at c.in-Ok.ensures.setup;
  once = c.run_resumed.ensures.opened;
  result = c.run_resumed.result;
  ended = refl;
  runs = rw c.in-Ok.ensures.same at c.run_resumed.ensures.runs;
}))

pub returns-in-Ok-clause-causes : goal.returns-in-Ok-clause-causes
returns-in-Ok-clause-causes g c =
    rw c.ending_of_run.ensures
    (run_causes _ _ _ _ _ _ c.run_resumed.result c.run_resumed.ensures.links_fault c.run_resumed.ensures.links_quiet
    c.run_resumed.ensures.sink_fault
    c.run_resumed.ensures.sink_quiet c.run_resumed.ensures.disk_fault c.run_resumed.ensures.disk_quiet)

pub returns-in-Ok-clause-not_read : goal.returns-in-Ok-clause-not_read
returns-in-Ok-clause-not_read g c = rw c.ending_of_run.ensures (run_not_read c.run_resumed.result)

pub returns-in-Ok-clause-unasked : goal.returns-in-Ok-clause-unasked
returns-in-Ok-clause-unasked g c =
    λ none. absurd (run_configured c.run_resumed.result (rw c.ending_of_run.ensures at none))

pub returns-in-Ok-clause-untouched : goal.returns-in-Ok-clause-untouched
returns-in-Ok-clause-untouched g c =
    λ refused. absurd (run_not_refused c.run_resumed.result (rw c.ending_of_run.ensures at refused))

pub returns-clause-ends : goal.returns-clause-ends
returns-clause-ends g c = inl (record {
  shared = c.in-Err.ending;
  ended = refl;
  refuses = rw c.as_slice.ensures at c.in-Err.ensures.refused;
  uncalled = refl;
  unwritten = refl;
  forks = refl;
  sink = refl;
})

pub returns-clause-causes : goal.returns-clause-causes
returns-clause-causes g c = text_causes _ _ _ c.in-Err.ending _ _ _ c.in-Err.ensures.refused

pub returns-clause-not_read : goal.returns-clause-not_read
returns-clause-not_read g c = text_not_read _ _ _ c.in-Err.ending c.in-Err.ensures.refused

pub returns-clause-unasked : goal.returns-clause-unasked
returns-clause-unasked g c = c.in-Err.ensures.unasked
