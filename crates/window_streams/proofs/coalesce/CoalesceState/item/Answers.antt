use Rattle.std.proofs.Common.{◌+◌, ◌-◌, ◌*◌, ◌/◌, ◌≤◌, refl, sym, ap, ◌∙◌, arith}
use Rattle.stream_meaning.specs.History.{begun}
use Rattle.stream_meaning.proofs.MomentLaws.{begun-≤}
use Rattle.window_streams.proofs.CoalesceLaws.{coalesce-item}
use Rattle.window_streams.proofs.coalesce.CoalesceState.item.Goals as goal

pub returns-clause-represents : goal.returns-clause-represents
returns-clause-represents c = λ h represents now small.
    let state = c.args.self.now in
    let start = represents.start in
    let begins = begun-≤ h in
    let after : state.start ≤ c.args.now = omega arith in
    coalesce-item state _ c.args.event h represents state.positive refl refl refl c.in_ok-put.ensures.ok
    (c.next_boundary-self.ensures after small
    ∙ ap (λ s. s + ((c.args.now - s) / state.secs + 1) * state.secs) start
    ∙ ap (λ m. begun h + ((m - begun h) / state.secs + 1) * state.secs) (sym now))
