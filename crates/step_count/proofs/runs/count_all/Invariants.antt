use Rattle.std.proofs.Common.{◌≡◌, ◌+◌, count_by, take}
use Rattle.step_count.specs.Count.{more_by}
use Rattle.step_count.specs.Runs.{is_fork, is_entry}
use Rattle.step_count.proofs.runs.count_all.Given as goal

abbrev pub invariant-loop-step : goal.invariant-loop-step
invariant-loop-step g l = record {
  forks : l.counted.forks ≡ l.fn.counted.forks + count_by is_fork (take l.step-index l.steps);
  entries : l.counted.entries ≡ l.fn.counted.entries + count_by is_entry (take l.step-index l.steps);
  forks_reported : g.G.Ledger.forks l.counted.ledger
      ≡ more_by (count_by is_fork (take l.step-index l.steps)) (g.G.Ledger.forks l.fn.counted.ledger);
  entries_reported : g.G.Ledger.entries l.counted.ledger
      ≡ more_by (count_by is_entry (take l.step-index l.steps)) (g.G.Ledger.entries l.fn.counted.ledger);
}
