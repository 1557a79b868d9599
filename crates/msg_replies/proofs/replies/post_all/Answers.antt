use Rattle.std.proofs.Common.{◌≡◌, ℕ, ◌+◌, ◌<◌, List, ap, get_or, length, map, pos, refl, replicate, set, subst, sym}
use Rattle.std.proofs.Common.{take, ◌∙◌}
use Rattle.std.proofs.lemmas.List.{replicate_more, take_more_set}
use Rattle.ev_types.specs.declared.event.Event.{Event}
use Rattle.ev_types.specs.Set.{event_at}
use Rattle.stream_meaning.specs.Arrivals.{Post}
use Rattle.msg_replies.specs.Arriving.{Arrives, reported}
use Rattle.msg_replies.proofs.AnswerLaws.{arrives_nothing, posted-at, posted_more}
use Rattle.msg_replies.proofs.replies.post_all.Goals as goal

-- one more of the first events is cleared
cleared_more : (events : List Event) (i : ℕ) (event : Event) → i < length events → event ≡ event_at (pos 0)
    → take i events ≡ replicate i (event_at (pos 0))
    → take (i + 1) (set events i event) ≡ replicate (i + 1) (event_at (pos 0))
cleared_more events i event within is cleared =
    take_more_set events i event within ∙ rw (cleared, is) (replicate_more i (event_at (pos 0)))

pub loop-event-init : goal.loop-event-init
loop-event-init g c = (
  refl,
  refl,
  refl,
  λ arrivals holds. arrives_nothing c.args.core.now arrivals (reported c.args.notices.now c.args.steps.now.forks) holds,
)

pub loop-event-preserved : goal.loop-event-preserved
loop-event-preserved g c =
    let events = c.args.events.now in
    let i = c.loop-event.event-index in
    let event = get_or c.loop-event.events i c.event-item.result in
    let before = reported c.args.notices.now c.args.steps.now.forks in
    let after = reported c.post_from.new.out c.post_from.new.steps.forks in
    let at =
    posted-at c.loop-event.events events i event c.clear.new.self c.loop-event-test.true c.loop-event.auto.events
    (ap (λ (other : Event). get_or c.loop-event.events i other) c.event-item.is) c.loop-event.invariant.1 in (
      c.in_ok-post_from.ensures.now ∙ c.loop-event.invariant.0,
      at.0,
      cleared_more c.loop-event.events i c.clear.new.self
          (subst (λ (n : ℕ). i < n) (sym c.loop-event.auto.events) c.loop-event-test.true) c.clear.ensures
          c.loop-event.invariant.2,
      λ arrivals holds. subst
          (λ (posted : List Event).
          Arrives c.args.core.now c.post_from.new.self arrivals (map Post posted) before after)
          (sym at.1)
          (posted_more c.args.core.now c.loop-event.core c.post_from.new.self arrivals (take i events) event
          before c.loop-event.notices c.post_from.new.out c.loop-event.steps c.post_from.new.steps
          c.in_ok-post_from.ensures.receives (c.loop-event.invariant.3 arrivals holds)),
    )
