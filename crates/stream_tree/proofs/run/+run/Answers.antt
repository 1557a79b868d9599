use Rattle.std.proofs.Common.{◌≡◌, refl, ap, sym, subst, ◌∙◌, ◌+◌, ◌++◌, arith, ℕ, List, length, get_or, Option}
use Rattle.std.proofs.Math.ListN.{set}
use mathlib.Core.Bool.{true≢false}
use Rattle.std.specs.Vec.{with_item}
use Rattle.std.proofs.lemmas.List.{length-set}
use Rattle.std.specs.Vec.Iter.{into_iter_items}
use Rattle.fork_by.specs.Table.{kept_forks, fork_labels}
use Rattle.fork_by.specs.Labels.{due_numbers}
use Rattle.pred_eval.proofs.BuildLaws.{on_error}
use Rattle.stream_plan.specs.Search.{opened}
use Rattle.stream_step.specs.Step.{branch_meant, emissions_meant}
use Rattle.stream_tree.specs.declared.forest.Forest.{out-Forest}
use Rattle.stream_tree.specs.declared.forest.Forest.TheViews.{roll-Forest, out-roll-Forest}
use Rattle.stream_tree.specs.declared.forest.Node.{Node}
use Rattle.stream_tree.specs.Forest.{nodes_of, below_of, first_of}
use Rattle.stream_tree.specs.Ends.{idle_by, not_ended}
use Rattle.stream_tree.specs.Running.{kind_of, children_of, EmissionsRun, EmissionsStop}
use Rattle.stream_tree.proofs.BelowLaws.{branch_children, branch_otherwise, children_stop, otherwise_stop, both_run}
use Rattle.stream_tree.proofs.BelowLaws.{one_stops, two_stops, due_run, due_stops, key_run, key_stops, keyed_run}
use Rattle.stream_tree.proofs.BelowLaws.{keyed_stop, one_more_emission, one_more_stops}
use Rattle.stream_tree.proofs.DueLoop.{loop_begins, loop_more, loop_ends, loop_stops, due_stop, item_is, items_within}
use Rattle.stream_tree.proofs.DueLoop.{items_past}
use Rattle.stream_tree.proofs.EnterLaws.{idle_opened, fork_runs, fork_unset, fork_stops, fork_missing_runs, due_same}
use Rattle.stream_tree.proofs.ForestLaws.{ForestRan, forest_more, forest_stops, forest_ends, forest_cut}
use Rattle.stream_tree.proofs.KnownLaws.{known_runs, known_stops}
use Rattle.stream_tree.proofs.PerformLaws.{rest_more, extends_none, extends_then}
use Rattle.stream_tree.proofs.StreamLaws.{stream_runs, stream_act_stops, stream_tick_stops, stream_passed_stops}
use Rattle.stream_tree.proofs.run.+run.Goals as goal

pub run_branch-returns-in_ok-run_forest-in-Children-clause-runs :
    goal.run_branch-returns-in_ok-run_forest-in-Children-clause-runs
run_branch-returns-in_ok-run_forest-in-Children-clause-runs g t c =
    λ first forks.
    branch_children c.args.context.now.patterns.now c.args.context.now.start c.args.context.now.moment c.args.stream.now
    c.deref.result.now c.args.branch c.args.entry.now c.args.out.now c.run_forest.new.out c.args.steps.now
    c.run_forest.new.steps
    c.args.children.now c.args.otherwise.now c.run_forest.new.forest c.in-Children.is c.deref.ensures.value
    c.in_ok-run_forest-in-Children.ensures.runs first forks

pub run_branch-returns-in_err-run_forest-in-Children-clause-stops :
    goal.run_branch-returns-in_err-run_forest-in-Children-clause-stops
run_branch-returns-in_err-run_forest-in-Children-clause-stops g t c =
    on_error c.from_residual.result (λ first forks.
    children_stop c.args.context.now.patterns.now c.args.context.now.start c.args.context.now.moment c.args.stream.now
    c.deref.result.now c.args.branch c.args.entry.now c.args.out.now c.run_forest.new.out c.args.steps.now
    c.run_forest.new.steps
    c.args.children.now c.args.otherwise.now c.in-Children.is c.deref.ensures.value
    c.in_err-run_forest-in-Children.ensures.stops first forks)

pub run_branch-returns-in_ok-run_forest-in-Otherwise-clause-runs :
    goal.run_branch-returns-in_ok-run_forest-in-Otherwise-clause-runs
run_branch-returns-in_ok-run_forest-in-Otherwise-clause-runs g t c =
    λ first forks.
    branch_otherwise c.args.context.now.patterns.now c.args.context.now.start c.args.context.now.moment
    c.args.stream.now c.deref-in-Otherwise.result.now c.args.branch c.args.entry.now c.args.out.now
    c.run_forest-in-Otherwise.new.out c.args.steps.now c.run_forest-in-Otherwise.new.steps
    c.args.children.now c.args.otherwise.now c.run_forest-in-Otherwise.new.forest c.in-Otherwise.is
    c.deref-in-Otherwise.ensures.value c.in_ok-run_forest-in-Otherwise.ensures.runs first forks

pub run_branch-returns-in_err-run_forest-in-Otherwise-clause-stops :
    goal.run_branch-returns-in_err-run_forest-in-Otherwise-clause-stops
run_branch-returns-in_err-run_forest-in-Otherwise-clause-stops g t c =
    on_error c.from_residual-in_err-run_forest-in-Otherwise.result (λ first forks.
    otherwise_stop c.args.context.now.patterns.now c.args.context.now.start c.args.context.now.moment c.args.stream.now
    c.deref-in-Otherwise.result.now c.args.branch c.args.entry.now c.args.out.now c.run_forest-in-Otherwise.new.out
    c.args.steps.now c.run_forest-in-Otherwise.new.steps
    c.args.children.now c.args.otherwise.now c.in-Otherwise.is c.deref-in-Otherwise.ensures.value
    c.in_err-run_forest-in-Otherwise.ensures.stops first forks)

pub run_due-returns-in_err-due_forks-clause-stops : goal.run_due-returns-in_err-due_forks-clause-stops
run_due-returns-in_err-due_forks-clause-stops g t c =
    on_error c.from_residual.result
    (due_stop c.args.context.now.patterns.now c.args.context.now.start c.args.context.now.moment c.args.out.now
    c.args.steps.now c.args.steps.now (children_of (opened c.args.stream.now))
    (idle_by (kind_of (opened c.args.stream.now))) c.args.forks.now
    c.due_forks.ensures.kept c.due_forks.new.steps
    c.due_forks.ensures.forks c.due_forks.ensures.at_most c.due_forks.ensures.at_least c.due_forks.ensures.began
    (λ none. let bad = c.in_err-due_forks.ensures.quiet none in cc))

pub run_due-loop-number-init : goal.run_due-loop-number-init
run_due-loop-number-init g t c =
    record {
      ran =
          loop_begins c.args.context.now.patterns.now c.args.context.now.start c.args.context.now.moment c.args.out.now
          c.args.steps.now c.due_forks.new.steps (children_of (opened c.args.stream.now))
          (idle_by (kind_of (opened c.args.stream.now))) c.args.forks.now
          c.due_forks.ensures.kept
          c.due_forks.new.self c.due_forks.ensures.table c.in_ok-due_forks.ensures.later c.due_forks.ensures.has;
      taken = record {
        forks = c.due_forks.ensures.forks;
        entries = c.in_ok-due_forks.ensures.entries;
        began = c.due_forks.ensures.began;
      };
      numbers =
          c.as_slice-number-items.ensures ∙ c.in_ok-due_forks.ensures.numbers
          ∙ ap (λ (l : List ℕ). l ++ (due_numbers c.args.context.now.moment (fork_labels c.args.forks.now)))
          c.fresh-numbers.ensures;
      prefix = extends_none c.args.out.now;
    }

pub run_due-returns-in_err-run_fork-clause-stops : goal.run_due-returns-in_err-run_fork-clause-stops
run_due-returns-in_err-run_fork-clause-stops g t c =
    on_error c.from_residual-in_err-run_fork.result
    (loop_stops c.args.context.now.patterns.now c.args.context.now.start c.args.context.now.moment c.args.out.now
    c.args.steps.now c.due_forks.new.steps (children_of (opened c.args.stream.now))
    (idle_by (kind_of (opened c.args.stream.now))) c.args.forks.now
    c.due_forks.ensures.kept
    c.loop-number.number-index (get_or c.as_slice-number-items.result.now c.loop-number.number-index 0)
    c.loop-number.forks c.loop-number.out c.run_fork.new.out c.loop-number.steps c.run_fork.new.steps
    (items_within c.as_slice-number-items.result.now
    (due_numbers c.args.context.now.moment (fork_labels c.args.forks.now))
    c.loop-number.number-index c.loop-number.invariant.numbers c.loop-number-test.true)
    (item_is c.as_slice-number-items.result.now (due_numbers c.args.context.now.moment (fork_labels c.args.forks.now))
    c.loop-number.number-index c.loop-number.invariant.numbers c.loop-number-test.true)
    c.loop-number.invariant.taken c.loop-number.invariant.ran c.in_err-run_fork.ensures.stops)

pub run_due-loop-number-preserved : goal.run_due-loop-number-preserved
run_due-loop-number-preserved g t c =
    record {
      ran =
          loop_more c.args.context.now.patterns.now c.args.context.now.start c.args.context.now.moment c.args.out.now
          c.args.steps.now c.due_forks.new.steps (children_of (opened c.args.stream.now))
          (idle_by (kind_of (opened c.args.stream.now))) c.args.forks.now
          c.due_forks.ensures.kept
          c.loop-number.number-index (get_or c.as_slice-number-items.result.now c.loop-number.number-index 0)
          c.loop-number.forks c.run_fork.new.forks c.loop-number.out c.run_fork.new.out c.loop-number.steps
          c.run_fork.new.steps
          (items_within c.as_slice-number-items.result.now
          (due_numbers c.args.context.now.moment (fork_labels c.args.forks.now)) c.loop-number.number-index
          c.loop-number.invariant.numbers c.loop-number-test.true)
          (item_is c.as_slice-number-items.result.now
          (due_numbers c.args.context.now.moment (fork_labels c.args.forks.now))
          c.loop-number.number-index c.loop-number.invariant.numbers c.loop-number-test.true)
          c.loop-number.invariant.ran c.in_ok-run_fork.ensures.runs;
      taken = c.loop-number.invariant.taken;
      numbers = c.loop-number.invariant.numbers;
      prefix =
          extends_then c.args.out.now c.loop-number.out c.run_fork.new.out c.loop-number.invariant.prefix
          c.run_fork.ensures.prefix;
    }

pub run_due-returns-clause-runs : goal.run_due-returns-clause-runs
run_due-returns-clause-runs g t c =
    loop_ends c.args.context.now.patterns.now c.args.context.now.start c.args.context.now.moment c.args.out.now
    c.args.steps.now c.due_forks.new.steps (children_of (opened c.args.stream.now))
    (idle_by (kind_of (opened c.args.stream.now))) c.args.forks.now
    c.due_forks.ensures.kept
    c.loop-number.number-index c.loop-number.forks c.drop_ended.new.forks c.loop-number.out c.loop-number.steps
    (items_past c.as_slice-number-items.result.now
    (due_numbers c.args.context.now.moment (fork_labels c.args.forks.now))
    c.loop-number.number-index c.loop-number.invariant.numbers c.loop-number-test.false)
    c.loop-number.invariant.taken c.loop-number.invariant.ran
    (λ is_table. c.drop_ended.ensures.kept is_table
    ∙ ap (λ (idle : Option ℕ). not_ended idle c.args.context.now.moment (kept_forks c.loop-number.forks))
    (idle_opened c.args.stream.now))
    c.drop_ended.ensures.table

pub run_emissions-loop-emission-preserved-in_ok-run_branch : goal.run_emissions-loop-emission-preserved-in_ok-run_branch
run_emissions-loop-emission-preserved-in_ok-run_branch g t c =
    record {
      ran = λ first forks.
          one_more_emission c.args.context.now.patterns.now c.args.context.now.start c.args.context.now.moment
          (opened c.args.stream.now) first c.args.out.now c.loop-emission.out c.run_branch.new.out c.args.steps.now
          c.loop-emission.steps c.run_branch.new.steps
          (below_of c.args.children.now c.args.otherwise.now forks)
          (below_of c.loop-emission.children c.loop-emission.otherwise forks)
          (below_of c.run_branch.new.children c.run_branch.new.otherwise forks)
          c.loop-emission.yielded c.in-Some.emission (branch_meant c.branch_of.result) c.branch_of.ensures
          (c.loop-emission.invariant.ran first forks) (c.in_ok-run_branch.ensures.runs first forks);
      prefix =
          extends_then c.args.out.now c.loop-emission.out c.run_branch.new.out c.loop-emission.invariant.prefix
          c.run_branch.ensures.prefix;
      left =
          sym (rest_more c.loop-emission.yielded (into_iter_items c.loop-emission.emission-iterator)
          (into_iter_items c.next.new.self) c.args.emissions c.in-Some.emission c.loop-emission.invariant.left
          c.in-Some.ensures.steps.0);
    }

pub run_emissions-returns-in_err-run_branch-clause-stops : goal.run_emissions-returns-in_err-run_branch-clause-stops
run_emissions-returns-in_err-run_branch-clause-stops g t c =
    on_error c.from_residual.result (λ first forks.
    one_more_stops c.args.context.now.patterns.now c.args.context.now.start c.args.context.now.moment
    (opened c.args.stream.now) first c.args.out.now c.loop-emission.out c.run_branch.new.out c.args.steps.now
    c.loop-emission.steps c.run_branch.new.steps
    (below_of c.args.children.now c.args.otherwise.now forks)
    (below_of c.loop-emission.children c.loop-emission.otherwise forks) c.loop-emission.yielded c.in-Some.emission
    (into_iter_items c.next.new.self) c.args.emissions
    (branch_meant c.branch_of.result) c.branch_of.ensures
    (rest_more c.loop-emission.yielded (into_iter_items c.loop-emission.emission-iterator)
    (into_iter_items c.next.new.self) c.args.emissions c.in-Some.emission c.loop-emission.invariant.left
    c.in-Some.ensures.steps.0)
    (c.loop-emission.invariant.ran first forks) (c.in_err-run_branch.ensures.stops first forks))

pub run_first-returns-in_err-run_node-clause-stops : goal.run_first-returns-in_err-run_node-clause-stops
run_first-returns-in_err-run_node-clause-stops g t c =
    on_error c.from_residual.result
    (forest_stops c.args.context.now.patterns.now c.args.context.now.start c.args.context.now.moment c.args.entry.now
    c.args.out.now c.args.steps.now c.args.streams.now (nodes_of c.args.forest.now) c.loop-i.i
    (nodes_of c.loop-i.forest) c.loop-i.out c.run_node.new.out c.loop-i.steps c.run_node.new.steps
    c.index-streams-i.result c.index_mut.result.now c.index_mut.result.now
    (omega (arith, c.loop-i-test.true, c.requires.streams))
    (omega (arith, c.loop-i-test.true, c.requires.nodes, c.loop-i.invariant.same)) c.index-streams-i.is
    c.index_mut.ensures.value c.loop-i.invariant.ran c.in_err-run_node.ensures.stops)

pub run_first-loop-i-preserved : goal.run_first-loop-i-preserved
run_first-loop-i-preserved g t c =
    let is : (out-Forest (roll-Forest
    (record { nodes = with_item (out-Forest c.loop-i.forest).nodes c.loop-i.i c.run_node.new.node }))).nodes.items
    ≡ set (nodes_of c.loop-i.forest) c.loop-i.i c.run_node.new.node =
    rw out-roll-Forest refl in record {
      ran =
          subst
          (λ (l : List Node). ForestRan c.args.context.now.patterns.now c.args.context.now.start
          c.args.context.now.moment c.args.entry.now c.args.out.now c.args.steps.now c.args.streams.now
          (nodes_of c.args.forest.now) (c.loop-i.i + 1) l c.run_node.new.out c.run_node.new.steps)
          (sym is)
          (forest_more c.args.context.now.patterns.now c.args.context.now.start c.args.context.now.moment
          c.args.entry.now c.args.out.now c.args.steps.now c.args.streams.now (nodes_of c.args.forest.now) c.loop-i.i
          (nodes_of c.loop-i.forest) c.loop-i.out c.run_node.new.out c.loop-i.steps c.run_node.new.steps
          c.index-streams-i.result c.index_mut.result.now c.run_node.new.node c.index_mut.result.now
          (omega (arith, c.loop-i-test.true, c.requires.streams))
          (omega (arith, c.loop-i-test.true, c.requires.nodes, c.loop-i.invariant.same)) c.index-streams-i.is
          c.index_mut.ensures.value c.loop-i.invariant.ran c.in_ok-run_node.ensures.runs);
      same =
          ap (λ (l : List Node). length l) is ∙ length-set (nodes_of c.loop-i.forest) c.loop-i.i c.run_node.new.node
          ∙ c.loop-i.invariant.same;
      prefix =
          extends_then c.args.out.now c.loop-i.out c.run_node.new.out c.loop-i.invariant.prefix
          c.run_node.ensures.prefix;
    }

pub run_forest-returns-clause-runs : goal.run_forest-returns-clause-runs
run_forest-returns-clause-runs g t c =
    forest_ends c.args.context.now.patterns.now c.args.context.now.start c.args.context.now.moment c.args.entry.now
    c.args.out.now c.args.steps.now c.args.streams.now (nodes_of c.args.forest.now) c.min-count.result
    (nodes_of c.run_first.new.forest) c.run_first.new.out c.run_bare.new.out c.run_first.new.steps c.after.result.now
    (omega
    (arith, c.min-count.ensures, c.len.ensures, c.run_first.ensures.many, (out-Forest c.args.forest.now).nodes.ok.0))
    c.run_first.ensures.many c.after.ensures c.in_ok-run_first.ensures.runs c.in_ok-run_bare.ensures.runs

pub run_forest-returns-in_err-run_bare-clause-stops : goal.run_forest-returns-in_err-run_bare-clause-stops
run_forest-returns-in_err-run_bare-clause-stops g t c =
    on_error c.from_residual-in_err-run_bare.result
    (forest_cut c.args.context.now.patterns.now c.args.context.now.start c.args.context.now.moment c.args.entry.now
    c.args.out.now c.args.steps.now c.args.streams.now (nodes_of c.args.forest.now) c.min-count.result
    (nodes_of c.run_first.new.forest) c.run_first.new.out c.run_bare.new.out c.run_first.new.steps c.after.result.now
    (omega
    (arith, c.min-count.ensures, c.len.ensures, c.run_first.ensures.many, (out-Forest c.args.forest.now).nodes.ok.0))
    c.run_first.ensures.many c.after.ensures c.in_ok-run_first.ensures.runs c.in_err-run_bare.ensures.stops
    c.run_bare.ensures.prefix (λ tick. true≢false (sym (c.in_err-run_bare.ensures.quiet tick))))

pub run_fork-returns-in_err-run_forest-clause-stops : goal.run_fork-returns-in_err-run_forest-clause-stops
run_fork-returns-in_err-run_forest-clause-stops g t c =
    on_error c.from_residual.result
    (fork_stops c.args.context.now.patterns.now c.args.context.now.start c.args.context.now.moment c.args.stream.now
    c.deref.result.now c.deref.ensures.value c.args.number c.args.forks.now c.enter-fork.result.now c.args.entry.now
    (c.contains.ensures.0 c.if-not-contains.false)
    c.enter-fork.ensures.kept c.args.out.now c.run_forest.new.out c.args.steps.now c.enter-fork.new.steps
    c.run_forest.new.steps c.enter-fork.ensures.forks c.enter-fork.ensures.entries c.enter-fork.ensures.began
    c.in_err-run_forest.ensures.stops)

pub run_fork-returns-in_err-set_due-clause-stops : goal.run_fork-returns-in_err-set_due-clause-stops
run_fork-returns-in_err-set_due-clause-stops g t c =
    on_error c.from_residual-in_err-set_due.result
    (fork_unset c.args.context.now.patterns.now c.args.context.now.start c.args.context.now.moment c.args.stream.now
    c.deref.result.now c.deref.ensures.value c.args.number c.args.forks.now c.enter-fork.result.now c.args.entry.now
    (c.contains.ensures.0 c.if-not-contains.false)
    c.enter-fork.ensures.kept c.args.out.now c.run_forest.new.out c.args.steps.now c.enter-fork.new.steps
    c.run_forest.new.steps c.enter-fork.ensures.forks c.enter-fork.ensures.entries c.enter-fork.ensures.began
    c.run_forest.new.forest c.in_ok-run_forest.ensures.runs)

pub run_fork-returns-clause-runs : goal.run_fork-returns-clause-runs
run_fork-returns-clause-runs g t c =
    fork_runs c.args.context.now.patterns.now c.args.context.now.start c.args.context.now.moment c.args.stream.now
    c.deref.result.now c.deref.ensures.value c.args.number c.args.forks.now c.enter-fork.result.now c.args.entry.now
    (c.contains.ensures.0 c.if-not-contains.false)
    c.enter-fork.ensures.kept c.args.out.now c.run_forest.new.out c.args.steps.now c.enter-fork.new.steps
    c.run_forest.new.steps c.enter-fork.ensures.forks c.enter-fork.ensures.entries c.enter-fork.ensures.began
    c.run_forest.new.forest c.set_due.new.self c.moment.result c.forest_due-due.result c.due_before_end-due.result
    c.in_ok-run_forest.ensures.runs
    (due_same c.deref-2.result.now c.deref.result.now (nodes_of c.run_forest.new.forest) c.forest_due-due.result
    (c.deref-2.ensures.value ∙ sym c.deref.ensures.value) c.forest_due-due.ensures)
    c.due_before_end-due.ensures c.moment.ensures
    c.in_ok-set_due.ensures.ok c.set_due.ensures.table c.set_due.ensures.has

pub run_fork-returns-then-not-contains-clause-runs : goal.run_fork-returns-then-not-contains-clause-runs
run_fork-returns-then-not-contains-clause-runs g t c =
    fork_missing_runs c.args.context.now.patterns.now c.args.context.now.start c.args.context.now.moment c.args.out.now
    c.args.steps.now c.args.entry.now (children_of (opened c.args.stream.now))
    (idle_by (kind_of (opened c.args.stream.now))) c.args.number c.args.forks.now
    (λ has. let there = c.contains.ensures.1 has in let none = c.if-not-contains.true in cc)

pub run_key-returns-clause-runs : goal.run_key-returns-clause-runs
run_key-returns-clause-runs g t c =
    λ children otherwise ended. key_run c.args.context.now.patterns.now c.args.context.now.start
    c.args.context.now.moment
    c.args.stream.now c.deref.result.now c.deref.ensures.value c.args.first c.args.key c.args.entry.now children
    otherwise c.args.forks.now c.find_fork.new.forks c.in_ok-number.number c.in_ok-number.ensures.found ended
    c.args.out.now
    c.run_fork.new.out c.args.steps.now c.run_fork.new.steps c.run_fork.new.forks c.in_ok-run_fork.ensures.runs

pub run_key-returns-in_err-run_fork-clause-stops : goal.run_key-returns-in_err-run_fork-clause-stops
run_key-returns-in_err-run_fork-clause-stops g t c =
    on_error c.from_residual-in_err-run_fork.result
    (λ children otherwise ended. key_stops c.args.context.now.patterns.now c.args.context.now.start
    c.args.context.now.moment
    c.args.stream.now c.deref.result.now c.deref.ensures.value c.args.first c.args.key c.args.entry.now children
    otherwise c.args.forks.now c.find_fork.new.forks c.in_ok-number.number c.in_ok-number.ensures.found ended
    c.args.out.now
    c.run_fork.new.out c.args.steps.now c.run_fork.new.steps c.in_err-run_fork.ensures.stops)

pub run_known-returns-clause-runs : goal.run_known-returns-clause-runs
run_known-returns-clause-runs g t c =
    λ state children otherwise.
    known_runs c.args.context.now.patterns.now c.args.context.now.start c.args.context.now.moment c.args.stream.now
    c.args.entry.now c.args.forks.now c.touch.new.self c.args.number c.requires c.touch.ensures.touched
    c.touch.ensures.table c.touch.ensures.has state children otherwise c.args.out.now c.run_fork.new.out
    c.args.steps.now c.run_fork.new.steps c.run_fork.new.forks c.in_ok-run_fork.ensures.runs

pub run_known-returns-in_err-run_fork-clause-stops : goal.run_known-returns-in_err-run_fork-clause-stops
run_known-returns-in_err-run_fork-clause-stops g t c =
    on_error c.from_residual.result (λ state children otherwise.
    known_stops c.args.context.now.patterns.now c.args.context.now.start c.args.context.now.moment c.args.stream.now
    c.args.entry.now c.args.forks.now c.touch.new.self c.args.number c.requires c.touch.ensures.touched
    c.touch.ensures.table c.touch.ensures.has state children otherwise c.args.out.now c.run_fork.new.out
    c.args.steps.now c.run_fork.new.steps c.in_err-run_fork.ensures.stops)

pub run_passed-returns-in_ok-run_key-in-Keyed-Item-clause-runs :
    goal.run_passed-returns-in_ok-run_key-in-Keyed-Item-clause-runs
run_passed-returns-in_ok-run_key-in-Keyed-Item-clause-runs g t c =
    keyed_run c.args.context.now.patterns.now c.args.context.now.start c.args.context.now.moment
    (opened c.args.stream.now) c.args.first c.in-Keyed-Item.key c.in-Keyed-Item.field-0-1 c.args.passed c.args.entry.now
    c.args.out.now c.run_key.new.out c.args.steps.now c.run_key.new.steps
    (below_of c.args.children.now c.args.otherwise.now c.args.forks.now)
    (below_of c.args.children.now c.args.otherwise.now c.run_key.new.forks) c.in-Keyed-Item.is-0 c.in-Keyed-Item.is-1
    (c.in_ok-run_key-in-Keyed-Item.ensures.runs c.args.children.now c.args.otherwise.now)

pub run_passed-returns-in_err-run_key-in-Keyed-Item-clause-stops :
    goal.run_passed-returns-in_err-run_key-in-Keyed-Item-clause-stops
run_passed-returns-in_err-run_key-in-Keyed-Item-clause-stops g t c =
    on_error c.from_residual-in_err-run_key-in-Keyed-Item.result
    (keyed_stop c.args.context.now.patterns.now c.args.context.now.start c.args.context.now.moment
    (opened c.args.stream.now) c.args.first c.in-Keyed-Item.key c.in-Keyed-Item.field-0-1 c.args.passed c.args.entry.now
    c.args.out.now c.run_key.new.out c.args.steps.now c.run_key.new.steps
    (below_of c.args.children.now c.args.otherwise.now c.args.forks.now) c.in-Keyed-Item.is-0 c.in-Keyed-Item.is-1
    (c.in_err-run_key-in-Keyed-Item.ensures.stops c.args.children.now c.args.otherwise.now))

pub run_stream-returns-in_err-run_known-clause-stops : goal.run_stream-returns-in_err-run_known-clause-stops
run_stream-returns-in_err-run_known-clause-stops g t c =
    on_error c.from_residual.result
    (c.in_err-run_known.ensures.stops c.args.state.now c.args.children.now c.args.otherwise.now)

pub run_stream-returns-in_err-passed-clause-stops : goal.run_stream-returns-in_err-passed-clause-stops
run_stream-returns-in_err-passed-clause-stops g t c =
    on_error c.from_residual-in_err-passed.result
    (stream_act_stops c.args.context.now.patterns.now c.args.context.now.start c.args.context.now.moment
    c.args.stream.now c.args.entry.now c.args.state.now c.args.out.now c.act.new.out c.args.steps.now
    (below_of c.args.children.now c.args.otherwise.now c.args.forks.now) c.act.ensures.prefix
    c.in_err-passed.ensures.part
    (λ texts h represents is at none. let bad = c.in_err-passed.ensures.quiet texts h represents is at none in cc))

pub run_stream-returns-in_err-run_tick-clause-stops : goal.run_stream-returns-in_err-run_tick-clause-stops
run_stream-returns-in_err-run_tick-clause-stops g t c =
    on_error c.from_residual-in_err-run_tick.result
    (stream_tick_stops c.args.context.now.patterns.now c.args.context.now.start c.args.context.now.moment
    c.args.stream.now c.args.entry.now c.args.state.now c.act.new.state c.in_ok-passed.passed c.args.out.now
    c.act.new.out c.run_tick.new.out c.args.steps.now c.run_tick.new.steps
    (below_of c.args.children.now c.args.otherwise.now c.args.forks.now)
    c.in_ok-passed.ensures.acts c.act.ensures.same (c.in_err-run_tick.ensures.stops (first_of c.act.new.state)))

pub run_stream-returns-in_err-run_passed-clause-stops : goal.run_stream-returns-in_err-run_passed-clause-stops
run_stream-returns-in_err-run_passed-clause-stops g t c =
    on_error c.from_residual-in_err-run_passed.result
    (stream_passed_stops c.args.context.now.patterns.now c.args.context.now.start c.args.context.now.moment
    c.args.stream.now c.args.entry.now c.args.state.now c.act.new.state c.in_ok-passed.passed c.args.out.now
    c.act.new.out c.run_tick.new.out c.run_passed.new.out c.args.steps.now c.run_tick.new.steps c.run_passed.new.steps
    (below_of c.args.children.now c.args.otherwise.now c.args.forks.now)
    (below_of c.run_tick.new.children c.run_tick.new.otherwise c.run_tick.new.forks)
    c.in_ok-passed.ensures.acts c.act.ensures.same (c.in_ok-run_tick.ensures.runs (first_of c.act.new.state))
    (λ ended. subst
    (λ (n : ℕ). EmissionsStop c.args.context.now.patterns.now c.args.context.now.start c.args.context.now.moment
    c.run_tick.new.out c.run_tick.new.steps c.run_passed.new.out c.run_passed.new.steps
    (emissions_meant ended c.in_ok-passed.passed c.args.entry.now) (opened c.args.stream.now) n
    (below_of c.run_tick.new.children c.run_tick.new.otherwise c.run_tick.new.forks))
    c.first_pattern-first.ensures (c.in_err-run_passed.ensures.stops ended)))

pub run_stream-returns-clause-runs : goal.run_stream-returns-clause-runs
run_stream-returns-clause-runs g t c =
    stream_runs c.args.context.now.patterns.now c.args.context.now.start c.args.context.now.moment c.args.stream.now
    c.args.entry.now c.args.state.now c.act.new.state c.in_ok-passed.passed c.args.out.now c.act.new.out
    c.run_tick.new.out c.run_passed.new.out c.args.steps.now c.run_tick.new.steps c.run_passed.new.steps
    (below_of c.args.children.now c.args.otherwise.now c.args.forks.now)
    (below_of c.run_tick.new.children c.run_tick.new.otherwise c.run_tick.new.forks)
    (below_of c.run_passed.new.children c.run_passed.new.otherwise c.run_passed.new.forks)
    c.in_ok-passed.ensures.acts c.act.ensures.same (c.in_ok-run_tick.ensures.runs (first_of c.act.new.state))
    (λ ended. subst
    (λ (n : ℕ). EmissionsRun c.args.context.now.patterns.now c.args.context.now.start c.args.context.now.moment
    c.run_tick.new.out c.run_tick.new.steps c.run_passed.new.out c.run_passed.new.steps
    (emissions_meant ended c.in_ok-passed.passed c.args.entry.now) (opened c.args.stream.now) n
    (below_of c.run_tick.new.children c.run_tick.new.otherwise c.run_tick.new.forks)
    (below_of c.run_passed.new.children c.run_passed.new.otherwise c.run_passed.new.forks))
    c.first_pattern-first.ensures (c.in_ok-run_passed.ensures.runs ended))

pub run_tick-returns-in_err-run_due-clause-stops : goal.run_tick-returns-in_err-run_due-clause-stops
run_tick-returns-in_err-run_due-clause-stops g t c =
    on_error c.from_residual.result
    (due_stops c.args.context.now.patterns.now c.args.context.now.start c.args.context.now.moment c.args.stream.now
    c.args.entry.now c.args.out.now c.run_due.new.out c.args.steps.now c.run_due.new.steps c.args.children.now
    c.args.otherwise.now c.args.forks.now (sym c.is_by.ensures ∙ c.if-is_by.true) c.in_default.is
    c.in_err-run_due.ensures.stops)

pub run_tick-returns-then-is_by-clause-runs : goal.run_tick-returns-then-is_by-clause-runs
run_tick-returns-then-is_by-clause-runs g t c =
    due_run c.args.context.now.patterns.now c.args.context.now.start c.args.context.now.moment c.args.stream.now
    c.args.entry.now c.args.out.now c.run_due.new.out c.args.steps.now c.run_due.new.steps c.args.children.now
    c.args.otherwise.now c.args.forks.now c.run_due.new.forks (sym c.is_by.ensures ∙ c.if-is_by.true) c.in_default.is
    c.in_ok-run_due.ensures.runs

pub run_tick-returns-in_err-run_forest-clause-stops : goal.run_tick-returns-in_err-run_forest-clause-stops
run_tick-returns-in_err-run_forest-clause-stops g t c =
    on_error c.from_residual-in_err-run_forest.result
    (one_stops c.args.context.now.patterns.now c.args.context.now.start c.args.context.now.moment c.args.stream.now
    c.deref.result.now c.args.entry.now c.args.out.now c.run_forest.new.out c.args.steps.now c.run_forest.new.steps
    c.args.children.now c.args.otherwise.now c.args.forks.now (sym c.is_by.ensures ∙ c.if-is_by.false) c.in_default.is
    c.deref.ensures.value c.in_err-run_forest.ensures.stops)

pub run_tick-returns-in_err-run_forest-2-clause-stops : goal.run_tick-returns-in_err-run_forest-2-clause-stops
run_tick-returns-in_err-run_forest-2-clause-stops g t c =
    on_error c.from_residual-in_err-run_forest-2.result
    (two_stops c.args.context.now.patterns.now c.args.context.now.start c.args.context.now.moment c.args.stream.now
    c.deref.result.now c.deref-2.result.now c.args.entry.now c.args.out.now c.run_forest.new.out c.run_forest-2.new.out
    c.args.steps.now c.run_forest.new.steps c.run_forest-2.new.steps c.args.children.now c.args.otherwise.now
    c.run_forest.new.forest c.args.forks.now (sym c.is_by.ensures ∙ c.if-is_by.false) c.in_default.is
    c.deref.ensures.value c.deref-2.ensures.value c.in_ok-run_forest.ensures.runs c.in_err-run_forest-2.ensures.stops)

pub run_tick-returns-clause-runs : goal.run_tick-returns-clause-runs
run_tick-returns-clause-runs g t c =
    both_run c.args.context.now.patterns.now c.args.context.now.start c.args.context.now.moment c.args.stream.now
    c.deref.result.now c.deref-2.result.now c.args.entry.now c.args.out.now c.run_forest.new.out c.run_forest-2.new.out
    c.args.steps.now c.run_forest.new.steps c.run_forest-2.new.steps c.args.children.now c.args.otherwise.now
    c.run_forest.new.forest c.run_forest-2.new.forest c.args.forks.now (sym c.is_by.ensures ∙ c.if-is_by.false)
    c.in_default.is c.deref.ensures.value c.deref-2.ensures.value c.in_ok-run_forest.ensures.runs
    c.in_ok-run_forest-2.ensures.runs
