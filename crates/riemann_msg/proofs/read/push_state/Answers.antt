use Rattle.std.proofs.Common.{[], ◌∷◌, ◌++◌, ap, ◌∙◌}
use Rattle.std.proofs.lemmas.Int.{to_z-of_z}
use Rattle.std.specs.Int.{w64}
use Rattle.ev_types.specs.declared.event.Event.{Event}
use Rattle.ev_types.specs.Set.{event_at}
use Rattle.riemann_msg.specs.declared.read.StateDraft.{StateDraft}
use Rattle.riemann_msg.proofs.Folds.{state_read}
use Rattle.riemann_msg.proofs.read.push_state.Goals as goal

pub returns : goal.returns
returns c =
    let draft : Event → StateDraft = λ event. record { event = event } in
    let fresh = ap draft (c.at.ensures ∙ ap event_at (to_z-of_z w64 c.args.now c.ranges.now)) in
    let read =
    state_read c.args.now c.args.bytes.now c.args.base _ c.read_fields.new.draft fresh c.in_ok-read_fields.ensures.ok.0
    c.in_ok-read_fields.ensures.ok.1 in
    (read.0, c.in_ok-push.ensures.ok ∙ ap (λ (event : Event). c.args.states.now ++ event ∷ []) read.1)
