use Rattle.std.proofs.Common.{◌≡◌, unwrap_or, ◌++◌, rules, refl, ap, ◌∙◌, w64, to_z, of_z}
use Rattle.std.specs.Int.{int_max}
use Rattle.std.proofs.lemmas.Int.{to_z-of_z}
use mir.Val.{SFits}
use Rattle.stream_meaning.specs.Emitted.{emitted}
use Rattle.window_streams.proofs.MovingTimeLaws.{moving_time-emits, moving_time-represents}
use Rattle.window_streams.proofs.moving_time.MovingTimeState.item.Goals as goal

pub returns-clause-emits : goal.returns-clause-emits
returns-clause-emits c = λ h represents now.
    let state = c.args.self.now in
    let time = c.args.event.time in
    let fits : SFits w64 time = search rules in
    let latest_fits : SFits w64 c.latest_with-latest.result = search rules in
    let latest = to_z w64 (of_z w64 c.latest_with-latest.result) in
    let own : latest ≡ int_max (unwrap_or state.latest time) time
    = to_z-of_z w64 c.latest_with-latest.result latest_fits ∙ c.latest_with-latest.ensures
    ∙ ap (λ z. int_max (unwrap_or state.latest z) z) (to_z-of_z w64 time fits) in
    c.in_ok-enter.ensures.sent
    ∙ ap (λ items. c.args.out.now ++ emitted items) (moving_time-emits state c.args.event h latest represents own)

pub returns-clause-represents : goal.returns-clause-represents
returns-clause-represents c = λ h represents now.
    let state = c.args.self.now in
    let time = c.args.event.time in
    let fits : SFits w64 time = search rules in
    let latest_fits : SFits w64 c.latest_with-latest.result = search rules in
    let latest = to_z w64 (of_z w64 c.latest_with-latest.result) in
    let own : latest ≡ int_max (unwrap_or state.latest time) time
    = to_z-of_z w64 c.latest_with-latest.result latest_fits ∙ c.latest_with-latest.ensures
    ∙ ap (λ z. int_max (unwrap_or state.latest z) z) (to_z-of_z w64 time fits) in
    moving_time-represents state _ c.args.event h latest represents state.positive own refl refl refl
    c.in_ok-enter.ensures.recent
