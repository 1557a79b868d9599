use Rattle.std.proofs.Common.{inl, inr, refl}
use Rattle.command_record.specs.declared.journal.Loaded.{Loaded}
use Rattle.command_record.proofs.CauseLaws.{causes_since, fault_causes}
use Rattle.command_record.proofs.EndingLaws.{fault_configured, fault_not_read}
use Rattle.command_record.proofs.resume_command.resume_from.Goals as goal

pub returns-in-Ok-clause-ends : goal.returns-in-Ok-clause-ends
returns-in-Ok-clause-ends g c = inr (record {
  loaded = c.in-Ok.loaded;
  loaded_disk = g.D.Disk.report c.load_from.new.disk;
  loads = c.in-Ok.ensures.loads;
  goes = c.resume_loaded.ensures.ends;
})

pub returns-in-Ok-clause-causes : goal.returns-in-Ok-clause-causes
returns-in-Ok-clause-causes g c =
    let loads = c.in-Ok.ensures.loads in causes_since _ _ _ _ _ _ _ _ loads.cause c.resume_loaded.ensures.causes

pub returns-in-Err-clause-ends : goal.returns-in-Err-clause-ends
returns-in-Err-clause-ends g c = rw c.ending_of_fault.ensures (inl (record {
  fault = c.in-Err.fault;
  ended = refl;
  loads = c.in-Err.ensures.loads;
  uncalled = refl;
  same = refl;
}))

pub returns-in-Err-clause-causes : goal.returns-in-Err-clause-causes
returns-in-Err-clause-causes g c =
    let loads = c.in-Err.ensures.loads in
    rw c.ending_of_fault.ensures (fault_causes Loaded _ _ _ _ c.in-Err.fault loads.cause)

pub returns-in-Err-clause-not_read : goal.returns-in-Err-clause-not_read
returns-in-Err-clause-not_read g c = rw c.ending_of_fault.ensures (fault_not_read c.in-Err.fault)

pub returns-in-Err-clause-unasked : goal.returns-in-Err-clause-unasked
returns-in-Err-clause-unasked g c =
    λ none. absurd (fault_configured c.in-Err.fault (rw c.ending_of_fault.ensures at none))
