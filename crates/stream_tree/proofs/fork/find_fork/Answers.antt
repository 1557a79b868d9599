use Rattle.std.proofs.Common.{sym, subst}
use Rattle.fork_by.specs.declared.table.ForkTable.{ForkTable}
use Rattle.stream_plan.specs.Tree.{list_trees}
use Rattle.stream_tree.specs.declared.forest.Forest.{Forest}
use Rattle.stream_tree.specs.Forks.{Finds}
use Rattle.stream_tree.proofs.ForkLaws.{found_known, found_new}
use Rattle.stream_tree.proofs.fork.find_fork.Goals as goal

pub returns-in-Some : goal.returns-in-Some
returns-in-Some c = record {
  found =
      subst
      (λ (forks : ForkTable Forest). Finds (list_trees c.args.streams.now) c.args.first c.args.context.now.start
      c.args.context.now.moment c.args.key c.args.forks.now forks c.in-Some.number)
      (sym c.note.ensures)
      (found_known (list_trees c.args.streams.now) c.args.first c.args.context.now.start
      c.args.context.now.moment c.args.key
      c.args.forks.now c.touch.new.self c.in-Some.number
      c.in-Some.ensures.found c.in-Some.ensures.has c.touch.ensures.touched c.touch.ensures.table
      c.touch.ensures.has);
}

pub returns : goal.returns
returns c = record {
  found =
      found_new (list_trees c.args.streams.now) c.args.first c.args.context.now.start c.args.context.now.moment
      c.fresh_branch.new.next c.args.key
      c.args.forks.now c.add.new.self c.in_ok-fork.fork c.in_ok-number.number
      c.in_default.ensures.found c.in_ok-fork.ensures c.in_ok-number.ensures.ok c.add.ensures.table
      c.in_ok-number.ensures.has;
}
