use Rattle.stream_meaning.specs.History.{◌▸◌}
use Rattle.stream_plan.specs.Tree.{kind_tree}
use Rattle.stream_step.proofs.StepLaws.{kept_holds}
use Rattle.stream_step.proofs.step.advance.Goals as goal

pub returns-in_ok-advance_kept-in-Kept-clause-represents : goal.returns-in_ok-advance_kept-in-Kept-clause-represents
returns-in_ok-advance_kept-in-Kept-clause-represents c texts h represents moment bound =
    kept_holds texts (kind_tree c.args.kind.now) c.args.state.now _ c.advance_kept.new.kept h (h ▸ c.args.entry.now)
    c.in-Kept.is
    (λ kept. c.in_ok-advance_kept-in-Kept.ensures.represents (kind_tree c.args.kind.now) h kept moment bound) represents
