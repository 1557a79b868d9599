use Rattle.riemann_msg.specs.Reply.{events_lent}
use Rattle.riemann_msg.proofs.Spelled.{begins0, begins1, found_spelled, grown2, not_written}
use Rattle.riemann_msg.proofs.reply.write_found.Goals as goal

pub returns-clause-ok : goal.returns-clause-ok
returns-clause-ok c =
    grown2 _ _ _ _ _ _ c.in_ok-put_flag.ensures.ok c.in_ok-put_lent_events.ensures.ok
    (found_spelled (events_lent c.args.events.now))
