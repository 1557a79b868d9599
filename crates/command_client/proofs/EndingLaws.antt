-- The statuses of a client.
use Rattle.std.proofs.Common.{◌≡◌}
use Rattle.command_io.specs.Endings as shared
use Rattle.command_io.specs.declared.ending.Ending.{Ending}
use Rattle.command_io.specs.declared.status.Status.{Status}
use Rattle.command_io.specs.declared.status.Status.TheVariants.{DiskFault}
use Rattle.command_client.specs.Endings.{status_of}
use Rattle.command_client.specs.declared.ending.ClientEnding.{ClientEnding}
use Rattle.command_client.specs.declared.ending.ClientEnding.TheVariants.{Shared, Lost, Unasked, Refused}

without_disk : ((ending : Ending) → shared.status_of ending ≡ DiskFault → ⊥) → (ending : ClientEnding)
    → status_of ending ≡ DiskFault → ⊥
without_disk others (Shared ending) e = others ending e
without_disk others _ e = cc

-- no call of a disk failed, since none is made
pub not_of_disk : ((ending : Ending) → shared.status_of ending ≡ DiskFault → ⊥)
    → (status : Status) (ending : ClientEnding)
    → status ≡ status_of ending → status ≡ DiskFault → ⊥
not_of_disk others status ending ended e = without_disk others ending (rw ended at e)
