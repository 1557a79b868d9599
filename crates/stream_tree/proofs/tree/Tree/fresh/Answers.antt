use Rattle.std.proofs.Common.{refl, ap, ◌∙◌}
use Rattle.stream_plan.specs.Tree.{list_trees}
use Rattle.stream_tree.specs.Forest.{nodes_of}
use Rattle.stream_tree.proofs.FreshLaws.{plan_fresh}
use Rattle.stream_tree.proofs.tree.Tree.fresh.Goals as goal

pub returns-clause-represents : goal.returns-clause-represents
returns-clause-represents c h alone begins = record {
  alive = refl;
  begins = begins;
  represents =
      plan_fresh c.args.plan c.deref.result.now (nodes_of c.in_ok-forest.forest) c.args.start c.fresh_forest.new.next
      (ap list_trees c.deref.ensures.value ∙ c.plan-2.ensures.same) c.plan-2.ensures.sound c.plan-2.ensures.few
      c.in_ok-forest.ensures h alone begins;
}
