use Rattle.std.proofs.Common.{sym, ◌∙◌}
use Rattle.pred_eval.proofs.HostLaws.{asked_of_all}
use Rattle.pred_eval.proofs.host.asked_host.Goals as goal

pub returns-in-All : goal.returns-in-All
returns-in-All c = c.first_host.ensures ∙ sym (asked_of_all c.args.rule.now c.in-All.rules c.in-All.is)
