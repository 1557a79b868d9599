-- The statuses of tests.
use Rattle.std.proofs.Common.{◌≡◌}
use Rattle.command_io.specs.Endings as shared
use Rattle.command_io.specs.declared.ending.Ending.{Ending}
use Rattle.command_io.specs.declared.status.Status.{Status}
use Rattle.command_io.specs.declared.status.Status.TheVariants.{DiskFault}
use Rattle.command_test.specs.Endings.{status_of}
use Rattle.command_test.specs.declared.ending.TestsEnding.{TestsEnding}
use Rattle.command_test.specs.declared.ending.TestsEnding.TheVariants.{Shared, Differed, TestsRefused}

without_disk : ((ending : Ending) → shared.status_of ending ≡ DiskFault → ⊥) → (ending : TestsEnding)
    → status_of ending ≡ DiskFault → ⊥
without_disk others (Shared ending) e = others ending e
without_disk others _ e = cc

-- no call of a disk failed, since none is made
pub not_of_disk : ((ending : Ending) → shared.status_of ending ≡ DiskFault → ⊥)
    → (status : Status) (ending : TestsEnding)
    → status ≡ status_of ending → status ≡ DiskFault → ⊥
not_of_disk others status ending ended e = without_disk others ending (rw ended at e)
