use Rattle.std.proofs.Common.{◌-◌, ℕ, replicate, ap, subst, ◌∙◌}
use Rattle.hub_link.specs.event_core.Core.{now_of}
use Rattle.ev_types.specs.Clock.{next_moment}
use Rattle.hub_link.specs.msg_replies.Arriving.{Arrives, reported}
use Rattle.hub_link.proofs.MsgRepliesAnswerLaws.{arrives_received}
use Rattle.stream_meaning.specs.Arrivals.{Elapsed}
use Rattle.conn_core.proofs.hub.pass.Goals as goal

pub returns-clause-arrives : goal.returns-clause-arrives
returns-clause-arrives g c = λ arrivals holds.
    let core = c.args.core.now in
    let to = c.next_moment-to.ensures.moment ∙ ap (λ (now : ℕ). next_moment now c.args.secs) c.now.ensures.value in
    subst
    (λ (t : ℕ). Arrives core c.advance.new.self arrivals (replicate (t - now_of core) Elapsed)
    (reported c.args.notices.now c.args.steps.now.forks) (reported c.advance.new.out c.advance.new.steps.forks))
    to
    (arrives_received c.in_ok-advance.ensures.receives arrivals holds)
