use Rattle.std.proofs.Common.{ap, ◌∙◌}
use Rattle.std.proofs.lemmas.Int.{to_z-of_z}
use Rattle.std.specs.Int.{w64}
use Rattle.ev_types.specs.declared.event.Event.{Event}
use Rattle.riemann_msg.proofs.Folds.{event_read}
use Rattle.riemann_msg.proofs.read.read_event.Goals as goal

pub returns : goal.returns
returns c =
    let now = to_z-of_z w64 c.args.now c.ranges.now in
    let at_now = λ (event : Event). record event { time = c.args.now } in
    let read =
    event_read c.args.now c.args.bytes.now c.args.base (at_now c.args.event.now) c.read_fields.new.draft
    (ap at_now c.requires.cleared) c.in_ok-read_fields.ensures.ok.0 (rw now at c.in_ok-read_fields.ensures.ok.1) in
    (read.0, c.round_time.ensures ∙ read.1)
