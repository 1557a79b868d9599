-- What sockets report of themselves: every call and its answer, and the faults.
use Rattle.std.specs.Prelude.{ℕ, List, Some, None}
use Rattle.ports.specs.Calls.{LinksReport}
use Rattle.ports.specs.declared.entry.Entry.{Entry}

abbrev pub report_of : List Entry → ℕ → LinksReport
report_of log faults = record { log = Some log; script = None; faults = faults }
