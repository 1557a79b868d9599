use Rattle.std.proofs.Common.{inl, refl}
use Rattle.command_setup.proofs.FaultLaws.{cut_has_config}
use Rattle.command_serve.proofs.load_command.run_load.Goals as goal

pub returns-in-Err-clause-ends : goal.returns-in-Err-clause-ends
returns-in-Err-clause-ends g c =
    inl (rw (c.ending_of_fault.ensures, c.in-Err.ensures.memory) refl, c.in-Err.ensures.cut_off, refl)

pub returns-in-Err-clause-asked : goal.returns-in-Err-clause-asked
returns-in-Err-clause-asked g c = λ refused. cut_has_config c.in-Err.fault (rw c.ending_of_fault.ensures at refused)
