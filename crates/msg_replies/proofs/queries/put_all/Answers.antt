use Rattle.std.proofs.Common.{sym, ◌∙◌}
use Rattle.msg_replies.proofs.FoundLaws.{over, whole}
use Rattle.msg_replies.proofs.queries.put_all.Goals as goal

pub returns-then-fits-clause-found : goal.returns-then-fits-clause-found
returns-then-fits-clause-found g c =
    whole c.args.core.now c.all_len.new.self c.args.pred.now c.all_len.new.pred c.in_ok-size.size
    c.args.replies.now c.put_events.new.replies c.put_events.result c.all_len.ensures.same c.all_len.ensures.pred
    (sym c.fits.ensures ∙ c.if-fits.true) c.in_ok-size.ensures.found c.put_events.ensures.found

pub returns-else-fits-clause-found : goal.returns-else-fits-clause-found
returns-else-fits-clause-found g c =
    over c.args.core.now c.args.pred.now c.in_ok-size.size c.args.replies.now c.refuse_long.new.replies
    c.refuse_long.result (sym c.fits.ensures ∙ c.if-fits.false) c.in_ok-size.ensures.found c.refuse_long.ensures
