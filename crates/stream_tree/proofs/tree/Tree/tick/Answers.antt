use Rattle.std.proofs.Common.{ap, sym, subst, ◌∙◌}
use Rattle.pred_eval.proofs.BuildLaws.{on_error}
use Rattle.stream_meaning.specs.declared.entry.Entry.TheVariants.{Tick}
use Rattle.stream_meaning.specs.History.{◌▸◌}
use Rattle.stream_meaning.specs.Outputs.{plan_effects}
use Rattle.stream_plan.specs.Ready.{plan_patterns}
use Rattle.stream_plan.specs.Tree.{StreamTrees, list_trees}
use Rattle.stream_tree.specs.Forest.{nodes_of, ForestRepresents}
use Rattle.stream_tree.specs.Tree.{plan_of, PerformsPart}
use Rattle.stream_tree.proofs.tree.Tree.tick.Goals as goal

pub returns-in_err-run_forest-clause-part : goal.returns-in_err-run_forest-clause-part
returns-in_err-run_forest-clause-part g c =
    on_error c.from_residual.result (λ h represents comes.
    let is = ap list_trees c.deref.ensures.value ∙ c.plan.ensures.same in
    let texts = plan_patterns (plan_of c.args.self.now) in
    let stop =
    c.in_err-run_forest.ensures.stops texts h c.patterns.ensures
    (subst (λ (plan : StreamTrees). ForestRepresents texts plan (nodes_of c.args.self.now.forest) h) (sym is)
    represents.represents)
    (record { begins = represents.begins; comes = comes; small = c.requires }) in
    subst
    (λ (plan : StreamTrees).
    PerformsPart c.args.out.now c.args.steps.now c.run_forest.new.out c.run_forest.new.steps
    (plan_effects plan (h ▸ Tick)))
    is stop.part)
