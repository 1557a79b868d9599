-- How a run stops at a test, and how the command then ends.
use Rattle.std.specs.Prelude.{◌≡◌, ℕ, List}
use Rattle.command_io.specs.Building.{IsRefusedPattern}
use Rattle.command_io.specs.declared.ending.ConfigRefusal.TheVariants as refusal
use Rattle.command_io.specs.declared.ending.Ending.{Ending}
use Rattle.command_io.specs.declared.ending.Ending.TheVariants.{ConfigRefused, WriteFailed, OutOfMemory}
use Rattle.command_io.specs.hub_meaning.Verdicts.{PatternsReport}
use Rattle.ports.specs.Writing.{FailsToPut, SinkReport}
use Rattle.stream_tests.specs.declared.fault.RunFault.{RunFault}
use Rattle.stream_tests.specs.declared.fault.RunFault.TheVariants as fault
use Rattle.command_test.specs.declared.stop.Stop.{Stop}
use Rattle.command_test.specs.declared.stop.Stop.TheVariants.{Pattern, Write, Memory}

abbrev pub stop_of : RunFault → Stop
stop_of (fault.Pattern number) = Pattern number
stop_of fault.Memory = Memory

abbrev pub ending_of : Stop → Ending
ending_of (Pattern number) = ConfigRefused (refusal.Pattern number)
ending_of Write = WriteFailed
ending_of Memory = OutOfMemory

-- why a test has no verdict
abbrev pub IsUnrun : List (List ℕ) → PatternsReport → PatternsReport → RunFault → Type 0
IsUnrun patterns old new (fault.Pattern number) = IsRefusedPattern patterns number old new
IsUnrun patterns old new fault.Memory = new ≡ old

-- why a line was not written
abbrev pub CutsLine : List ℕ → SinkReport → SinkReport → Stop → Type 0
CutsLine line old new Write = FailsToPut old line new
CutsLine line old new Memory = new ≡ old
CutsLine line old new (Pattern number) = ⊥
