use Rattle.std.proofs.Common.{◌≡◌, ◌-ℤ◌, unwrap_or, cond, [], ◌∷◌, ◌++◌, rules, refl, ap, ◌∙◌, w64, to_z, of_z}
use Rattle.std.proofs.lemmas.Int.{to_z-of_z}
use mir.Val.{SFits}
use Rattle.stream_meaning.specs.Came.{vector}
use Rattle.stream_meaning.specs.Emitted.{emitted}
use Rattle.stream_meaning.specs.Windows.{floor_div}
use Rattle.window_streams.specs.Stretch.{stretch_from, is_later, is_same, later_of}
use Rattle.window_streams.proofs.FixedTimeLaws.{fixed_time-emits, fixed_time-represents}
use Rattle.window_streams.proofs.fixed_time.FixedTimeState.item.Goals as goal

pub returns-clause-emits : goal.returns-clause-emits
returns-clause-emits c = λ h represents now.
    let state = c.args.self.now in
    let fits : SFits w64 c.args.event.time = search rules in
    let first_fits : SFits w64 c.unwrap_or-first.result = search rules in
    let time = to_z-of_z w64 c.args.event.time fits in
    let start = to_z w64 (of_z w64 c.unwrap_or-first.result) in
    let from : start ≡ unwrap_or state.first c.args.event.time =
    to_z-of_z w64 c.unwrap_or-first.result first_fits ∙ c.unwrap_or-first.ensures ∙ ap (unwrap_or state.first) time in
    let stretch : c.stretch_of-stretch.result ≡ stretch_from (floor_div (c.args.event.time -ℤ start) state.secs) =
    c.stretch_of-stretch.ensures ∙ ap (λ z. stretch_from (floor_div (z -ℤ start) state.secs)) time in
    c.in_ok-enter.ensures.sent
    ∙ ap (λ s. c.args.out.now ++ emitted (cond (is_later s state.latest) (vector state.waiting) [])) stretch
    ∙ ap (λ items. c.args.out.now ++ emitted items) (fixed_time-emits state c.args.event h start represents from)

pub returns-clause-represents : goal.returns-clause-represents
returns-clause-represents c = λ h represents now.
    let state = c.args.self.now in
    let fits : SFits w64 c.args.event.time = search rules in
    let first_fits : SFits w64 c.unwrap_or-first.result = search rules in
    let time = to_z-of_z w64 c.args.event.time fits in
    let start = to_z w64 (of_z w64 c.unwrap_or-first.result) in
    let from : start ≡ unwrap_or state.first c.args.event.time =
    to_z-of_z w64 c.unwrap_or-first.result first_fits ∙ c.unwrap_or-first.ensures ∙ ap (unwrap_or state.first) time in
    let stretch : c.stretch_of-stretch.result ≡ stretch_from (floor_div (c.args.event.time -ℤ start) state.secs) =
    c.stretch_of-stretch.ensures ∙ ap (λ z. stretch_from (floor_div (z -ℤ start) state.secs)) time in
    fixed_time-represents state _ c.args.event h start represents from refl refl refl
    (c.in_ok-enter.ensures.latest ∙ ap (λ s. later_of s state.latest) stretch)
    (c.in_ok-enter.ensures.waiting
    ∙ ap
    (λ s. cond (is_later s state.latest) (c.args.event ∷ [])
    (cond (is_same s state.latest) (state.waiting ++ c.args.event ∷ []) state.waiting))
    stretch)
