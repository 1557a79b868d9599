use Rattle.std.proofs.Common.{◌≡◌, ◌+◌, ◌^◌, ◌<◌, not, filter, length, ◌++◌, rules, refl, sym, ap, ◌∙◌, arith}
use Rattle.std.proofs.lemmas.Bool.Decides.{nat_tests}
use Rattle.std.proofs.lemmas.List.{append-nil}
use Rattle.ev_types.specs.Expiry.{is_expired}
use Rattle.stream_meaning.specs.Came.{vector}
use Rattle.stream_meaning.specs.Emitted.{emitted}
use Rattle.stream_meaning.specs.History.{moment_of}
use Rattle.window_streams.proofs.CoalesceLaws.{coalesce-waits, coalesce-emits, coalesce-quiet, coalesce-passed}
use Rattle.window_streams.proofs.coalesce.CoalesceState.tick.Goals as goal

-- no event is kept
pub returns-then-is_empty-clause-emits : goal.returns-then-is_empty-clause-emits
returns-then-is_empty-clause-emits c = λ h represents now.
    let state = c.args.self.now in
    let none : length state.last ≡ 0 = grind (arith, nat_tests) in
    let waits = coalesce-waits state h represents state.positive (λ some at. omega arith) in
    sym (ap (λ items. c.args.out.now ++ emitted items) waits.0 ∙ append-nil c.args.out.now)

pub returns-then-is_empty-clause-represents : goal.returns-then-is_empty-clause-represents
returns-then-is_empty-clause-represents c = λ h represents now small.
    let state = c.args.self.now in
    let none : length state.last ≡ 0 = grind (arith, nat_tests) in
    (coalesce-waits state h represents state.positive (λ some at. omega arith)).1

-- the moment is not the boundary
pub returns-then-now-self-clause-emits : goal.returns-then-now-self-clause-emits
returns-then-now-self-clause-emits c = λ h represents now.
    let state = c.args.self.now in
    let waits = coalesce-waits state h represents state.positive (λ some at. c.if-now-self.true (sym now ∙ at)) in
    sym (ap (λ items. c.args.out.now ++ emitted items) waits.0 ∙ append-nil c.args.out.now)

pub returns-then-now-self-clause-represents : goal.returns-then-now-self-clause-represents
returns-then-now-self-clause-represents c = λ h represents now small.
    let state = c.args.self.now in
    (coalesce-waits state h represents state.positive (λ some at. c.if-now-self.true (sym now ∙ at))).1

-- events are passed on
pub returns-in_err-events-clause-quiet : goal.returns-in_err-events-clause-quiet
returns-in_err-events-clause-quiet c = λ h represents now quiet.
    let state = c.args.self.now in
    let some : 0 < length state.last = grind (arith, nat_tests) in
    absurd (coalesce-quiet state h represents state.positive quiet some (now ∙ c.if-now-self.false))

pub returns-in_err-send-clause-quiet : goal.returns-in_err-send-clause-quiet
returns-in_err-send-clause-quiet c = λ h represents now quiet.
    let state = c.args.self.now in
    let some : 0 < length state.last = grind (arith, nat_tests) in
    absurd (coalesce-quiet state h represents state.positive quiet some (now ∙ c.if-now-self.false))

pub returns-clause-emits : goal.returns-clause-emits
returns-clause-emits c = λ h represents now.
    let state = c.args.self.now in
    let some : 0 < length state.last = grind (arith, nat_tests) in
    c.in_ok-send.ensures.ok
    ∙ ap (λ es. c.args.out.now ++ emitted (vector es)) c.in_ok-events.ensures.passed
    ∙ ap (λ items. c.args.out.now ++ emitted items)
    (sym (coalesce-emits state h represents state.positive some (now ∙ c.if-now-self.false)))

pub returns-clause-represents : goal.returns-clause-represents
returns-clause-represents c = λ h represents now small.
    let state = c.args.self.now in
    let some : 0 < length state.last = grind (arith, nat_tests) in
    let fits : state.secs < 2 ^ 32 = search rules in
    let least : c.min.result ≡ moment_of h + 1 = omega (arith, c.min.ensures) in
    let sum : c.saturating_add-self.result ≡ moment_of h + 1 + state.secs =
    omega (arith, c.saturating_add-self.ensures, c.from.ensures) in
    coalesce-passed state _ h represents state.positive some (now ∙ c.if-now-self.false) refl refl refl
    (c.in_ok-events.ensures.kept ∙ ap (λ m. filter (λ event. not (is_expired m event)) state.last) least) sum
