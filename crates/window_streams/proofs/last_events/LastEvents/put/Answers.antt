use Rattle.std.proofs.Common.{◌∙◌}
use Rattle.window_streams.proofs.PutLaws.{replace_is_put}
use Rattle.window_streams.proofs.last_events.LastEvents.put.Goals as goal

pub returns-clause-ok : goal.returns-clause-ok
returns-clause-ok c =
    rw (← c.self.view_is) (c.in_ok-replace.ensures.keys ∙ replace_is_put c.args.event _ c.self.invariant)
