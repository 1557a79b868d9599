-- Calls that are reported by links that play no script.
use Rattle.std.proofs.Common.{◌≡◌, ◌≤◌, ℕ, List, ◌++◌, Some, refl, ap}
use Rattle.ports.specs.Calls.{AddsCalls}
use Rattle.ports.specs.declared.entry.Entry.{Entry}
use Rattle.mio_links.specs.Reports.{report_of}

pub reported : (log log' made : List Entry) (faults faults' : ℕ) → log' ≡ log ++ made → faults ≤ faults'
    → AddsCalls (report_of log faults) (report_of log' faults') made
reported log log' made faults faults' same risen =
    record { log = ap Some same; script = refl; plays = λ _ script none. cc; faults = risen }
