-- How a command ends whose run was cut off.
use Rattle.hub_run.specs.declared.fault.RunFault.{RunFault}
use Rattle.hub_run.specs.declared.fault.RunFault.TheVariants.{Links, Sink, Memory}
use Rattle.command_io.specs.declared.ending.Ending.{Ending}
use Rattle.command_io.specs.declared.ending.Ending.TheVariants.{WriteFailed, LinksFailed, OutOfMemory}

abbrev pub ending_of_fault : RunFault → Ending
ending_of_fault Links = LinksFailed
ending_of_fault Sink = WriteFailed
ending_of_fault Memory = OutOfMemory
