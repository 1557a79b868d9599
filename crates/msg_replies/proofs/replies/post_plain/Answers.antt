use Rattle.std.proofs.Common.{◌≡◌, ◌+◌, ◌++◌, List, [], ◌∷◌, ap, arith, map, refl, subst, sym, take, ◌∙◌}
use Rattle.std.proofs.lemmas.List.{take_all, take_more}
use Rattle.ev_types.specs.declared.event.Event.{Event}
use Rattle.stream_meaning.specs.Arrivals.{Post}
use Rattle.msg_replies.specs.Arriving.{Arrives, reported}
use Rattle.msg_replies.proofs.AnswerLaws.{arrives_nothing, posted_more}
use Rattle.msg_replies.proofs.replies.post_plain.Goals as goal

pub loop-event-init : goal.loop-event-init
loop-event-init g c = (
  refl,
  λ arrivals holds. arrives_nothing c.args.core.now arrivals (reported c.args.notices.now c.args.steps.now.forks) holds,
)

pub loop-event-preserved : goal.loop-event-preserved
loop-event-preserved g c =
    let events = c.args.events.now in
    let i = c.loop-event.event-index in
    let event = c.event-item.result in
    let before = reported c.args.notices.now c.args.steps.now.forks in
    let after = reported c.post_packed.new.out c.post_packed.new.steps.forks in
    let more : take (i + 1) events ≡ take i events ++ event ∷ [] =
    take_more events i event (omega arith) ∙ ap (λ (e : Event). take i events ++ e ∷ []) (sym c.event-item.is) in (
      c.in_ok-post_packed.ensures.now ∙ c.loop-event.invariant.0,
      λ arrivals holds. subst
          (λ (posted : List Event).
          Arrives c.args.core.now c.post_packed.new.self arrivals (map Post posted) before after)
          (sym more)
          (posted_more c.args.core.now c.loop-event.core c.post_packed.new.self arrivals (take i events) event
          before c.loop-event.notices c.post_packed.new.out c.loop-event.steps c.post_packed.new.steps
          c.in_ok-post_packed.ensures.receives (c.loop-event.invariant.1 arrivals holds)),
    )

pub returns-clause-arrives : goal.returns-clause-arrives
returns-clause-arrives g c = λ arrivals holds.
    subst
    (λ (posted : List Event).
    Arrives c.args.core.now c.loop-event.core arrivals (map Post posted)
    (reported c.args.notices.now c.args.steps.now.forks) (reported c.loop-event.notices c.loop-event.steps.forks))
    (take_all c.loop-event.event-index c.args.events.now (omega arith))
    (c.loop-event.invariant.1 arrivals holds)
