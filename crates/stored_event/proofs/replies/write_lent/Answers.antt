use Rattle.riemann_msg.specs.Reply.{events_lent}
use Rattle.stored_event.proofs.ReplySpellings.{put_all}
use Rattle.stored_event.proofs.replies.write_lent.Goals as goal

pub returns-clause-ok : goal.returns-clause-ok
returns-clause-ok g c =
    put_all (events_lent c.args.events.now) c.args.out.now c.write_found.new.out c.put_events.new.out
    c.in_ok-write_found.ensures.ok c.in_ok-put_events.ensures.ok
