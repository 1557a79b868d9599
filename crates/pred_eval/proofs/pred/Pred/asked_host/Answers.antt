use Rattle.std.proofs.Common.{IfSome, subst, sym, ap, ◌∙◌}
use Rattle.pred_eval.specs.Host.{NeedsHost, asked_host}
use Rattle.pred_eval.proofs.HostLaws.{needs_host}
use Rattle.pred_eval.proofs.pred.Pred.asked_host.Goals as goal

pub returns-clause-needs : goal.returns-clause-needs
returns-clause-needs c =
    subst (λ asked. IfSome asked (NeedsHost c.args.self.now))
    (sym (c.asked_host.ensures ∙ ap asked_host c.self.view_is)) (needs_host c.args.self.now)
