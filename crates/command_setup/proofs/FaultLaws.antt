-- How a command does not end whose run was cut off.
use Rattle.command_io.specs.Endings.{HasNoConfig, IsComplete}
use Rattle.command_setup.specs.Endings.{ending_of_fault}
use Rattle.hub_run.specs.declared.fault.RunFault.{RunFault}
use Rattle.hub_run.specs.declared.fault.RunFault.TheVariants.{Links, Sink, Memory}

pub cut_not_complete : (fault : RunFault) → IsComplete (ending_of_fault fault) → ⊥
cut_not_complete Links complete = complete
cut_not_complete _ complete = complete

pub cut_has_config : (fault : RunFault) → HasNoConfig (ending_of_fault fault) → ⊥
cut_has_config Links refused = refused
cut_has_config _ refused = refused
