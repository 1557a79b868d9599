-- Which calls of links are made to fail, and how they are counted.
use Rattle.std.specs.Prelude.{ℕ, ◌==◌, Bool, if◌then◌else◌}
use Rattle.std.specs.List.{list_any}
use Rattle.ports.specs.Calls.{LinksReport}
use Rattle.ports.specs.Counts.{count_after}
use Rattle.ports.specs.ScriptLinks.{script_report}
use Rattle.ports.specs.declared.fault_links.FaultLinks.{FaultLinks}

abbrev pub fault_report : FaultLinks → LinksReport
fault_report links = record (script_report links.inner) { faults = links.faults }

-- the number of the next call of `listen` or `next` was chosen
abbrev pub is_chosen : FaultLinks → Bool
is_chosen links = list_any (λ number. number == links.calls) links.failing.items

-- the count of faults after that call
abbrev pub faults_after : FaultLinks → ℕ
faults_after links = if is_chosen links then count_after links.faults 1 else links.faults
