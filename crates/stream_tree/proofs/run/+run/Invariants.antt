use Rattle.std.proofs.Common.{◌≡◌, ℕ, ◌++◌, length, map}
use Rattle.std.specs.Vec.Iter.{into_iter_items}
use Rattle.fork_by.specs.declared.table.ForkTable.{ForkTable}
use Rattle.fork_by.specs.Table.{fork_labels}
use Rattle.fork_by.specs.Labels.{due_numbers}
use Rattle.stream_plan.specs.Search.{opened}
use Rattle.list_laws.specs.Prefix.{IsPrefix}
use Rattle.stream_step.specs.Step.{emission_meant}
use Rattle.stream_tree.specs.declared.forest.Forest.{Forest}
use Rattle.stream_tree.specs.Ends.{idle_by}
use Rattle.stream_tree.specs.Forest.{nodes_of, below_of}
use Rattle.stream_tree.specs.Running.{kind_of, children_of, EmissionsRun}
use Rattle.stream_tree.proofs.DueLoop.{LoopRan, Taken}
use Rattle.stream_tree.proofs.ForestLaws.{ForestRan}
use Rattle.stream_tree.proofs.run.+run.Given as goal

-- the emissions so far have gone to their branches
abbrev pub invariant-run_emissions-loop-emission : goal.invariant-run_emissions-loop-emission
invariant-run_emissions-loop-emission g l = record {
  ran : (first : ℕ) (forks : ForkTable Forest)
      → EmissionsRun l.context.patterns.now l.context.start l.context.moment l.fn.out l.fn.steps l.out l.steps
      (map emission_meant l.yielded) (opened l.stream) first
      (below_of l.fn.children l.fn.otherwise forks) (below_of l.children l.otherwise forks);
  left : l.yielded ++ into_iter_items l.emission-iterator ≡ l.fn.emissions;
  prefix : IsPrefix l.fn.out l.out;
}

-- the streams up to the index have got the entry
abbrev pub invariant-run_first-loop-i : goal.invariant-run_first-loop-i
invariant-run_first-loop-i g l = record {
  ran : ForestRan l.context.patterns.now l.context.start l.context.moment l.entry l.fn.out l.fn.steps l.streams
      (nodes_of l.fn.forest) l.i (nodes_of l.forest) l.out l.steps;
  same : length (nodes_of l.forest) ≡ length (nodes_of l.fn.forest);
  prefix : IsPrefix l.fn.out l.out;
}

-- the forks that are due, up to the index, have got the tick
abbrev pub invariant-run_due-loop-number : goal.invariant-run_due-loop-number
invariant-run_due-loop-number g l = record {
  ran : LoopRan l.context.patterns.now l.context.start l.context.moment l.fn.out l.fn.steps l.initial.steps
      (children_of (opened l.stream)) (idle_by (kind_of (opened l.stream))) l.fn.forks l.number-index l.forks l.out
      l.steps;
  taken : Taken l.context.patterns.now l.context.start l.context.moment l.fn.out l.fn.steps l.initial.steps
      (children_of (opened l.stream)) (idle_by (kind_of (opened l.stream))) l.fn.forks;
  numbers : l.number-items ≡ due_numbers l.context.moment (fork_labels l.fn.forks);
  prefix : IsPrefix l.fn.out l.out;
}
