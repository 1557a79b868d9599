use Rattle.std.proofs.Common.{inl, inr, refl}
use Rattle.journal_format.specs.declared.finder.Found.{Found}
use Rattle.command_record.proofs.CauseLaws.{causes_since, fault_causes, run_causes}
use Rattle.command_record.proofs.EndingLaws.{fault_configured, fault_not_read, run_configured, run_not_read}
use Rattle.command_record.proofs.EndingLaws.{run_not_refused}
use Rattle.command_record.proofs.OpeningLaws.{blank_has_none, blank_has_room}
use Rattle.turn_journal.proofs.AppendLaws.{ready_within}
use Rattle.command_record.proofs.record_command.record_run.Goals as goal

pub run_recorded-requires-clause-within : goal.run_recorded-requires-clause-within
run_recorded-requires-clause-within g c =
    ready_within (g.D.Disk.report c.begin_in.new.disk).past c.in-Ok.found.gate c.in-Ok.found.has_record
    c.in-Ok.ensures.ready

pub run_recorded-requires-clause-unbegun : goal.run_recorded-requires-clause-unbegun
run_recorded-requires-clause-unbegun g c = blank_has_none c.args.config.now c.in-Ok.found c.in-Ok.ensures.end

pub run_recorded-requires-clause-room : goal.run_recorded-requires-clause-room
run_recorded-requires-clause-room g c =
    blank_has_room c.args.config.now c.in-Ok.found c.in-Ok.ensures.end c.requires.short

pub returns-in-Ok-clause-ends : goal.returns-in-Ok-clause-ends
returns-in-Ok-clause-ends g c = rw c.ending_of_run.ensures (inr (record {
  found = c.in-Ok.found;
  begun_disk = g.D.Disk.report c.begin_in.new.disk;
  begins = c.in-Ok.ensures.begins;
  once = c.run_recorded.ensures.opened;
  result = c.run_recorded.result;
  ended = refl;
  runs = c.run_recorded.ensures.runs;
}))

pub returns-in-Ok-clause-causes : goal.returns-in-Ok-clause-causes
returns-in-Ok-clause-causes g c =
    let begins = c.in-Ok.ensures.begins in
    rw c.ending_of_run.ensures (causes_since _ _ _ _ _ _ _ _ begins.cause
    (run_causes _ _ _ _ _ _ c.run_recorded.result c.run_recorded.ensures.links_fault c.run_recorded.ensures.links_quiet
    c.run_recorded.ensures.sink_fault
    c.run_recorded.ensures.sink_quiet c.run_recorded.ensures.disk_fault c.run_recorded.ensures.disk_quiet))

pub returns-in-Ok-clause-not_read : goal.returns-in-Ok-clause-not_read
returns-in-Ok-clause-not_read g c = rw c.ending_of_run.ensures (run_not_read c.run_recorded.result)

pub returns-in-Ok-clause-configured : goal.returns-in-Ok-clause-configured
returns-in-Ok-clause-configured g c = rw c.ending_of_run.ensures (run_configured c.run_recorded.result)

pub returns-in-Ok-clause-untouched : goal.returns-in-Ok-clause-untouched
returns-in-Ok-clause-untouched g c =
    λ refused. absurd (run_not_refused c.run_recorded.result (rw c.ending_of_run.ensures at refused))

pub returns-in-Err-clause-ends : goal.returns-in-Err-clause-ends
returns-in-Err-clause-ends g c = rw c.ending_of_fault.ensures (inl (record {
  fault = c.in-Err.fault;
  ended = refl;
  begins = c.in-Err.ensures.begins;
  uncalled = refl;
  same = refl;
}))

pub returns-in-Err-clause-causes : goal.returns-in-Err-clause-causes
returns-in-Err-clause-causes g c =
    let begins = c.in-Err.ensures.begins in
    rw c.ending_of_fault.ensures (fault_causes Found _ _ _ _ c.in-Err.fault begins.cause)

pub returns-in-Err-clause-not_read : goal.returns-in-Err-clause-not_read
returns-in-Err-clause-not_read g c = rw c.ending_of_fault.ensures (fault_not_read c.in-Err.fault)

pub returns-in-Err-clause-configured : goal.returns-in-Err-clause-configured
returns-in-Err-clause-configured g c = rw c.ending_of_fault.ensures (fault_configured c.in-Err.fault)
