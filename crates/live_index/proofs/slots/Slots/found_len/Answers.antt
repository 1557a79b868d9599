use Rattle.std.proofs.Common.{◌≡◌, arith, sym, ap, ◌∙◌, subst, filter}
use Rattle.std.proofs.lemmas.Result.{on_ok_weaker}
use Rattle.std.specs.Map.{values_of}
use Rattle.key_map.specs.Keys.{Numbers}
use Rattle.pred_eval.specs.Host.{asked_host}
use Rattle.pred_eval.specs.Truth.{holds}
use Rattle.live_index.specs.Index.{reply_len}
use Rattle.live_index.specs.Slots.{events_at, numbers_of_value, AreLive}
use Rattle.live_index.proofs.HostLaws.{asked-count, asked-live, asked-search}
use Rattle.live_index.proofs.LengthLaws.{still_ok}
use Rattle.live_index.proofs.slots.Slots.found_len.Goals as goal

pub found_len_at-requires : goal.found_len_at-requires
found_len_at-requires g c =
    let slots = c.args.self.now in
    let are : c.as_slice.result.now ≡ values_of (numbers_of_value (asked_host c.args.pred.now) slots.numbers) =
    c.as_slice.ensures.value ∙ c.in_ok-numbers.ensures.numbers
    ∙ ap (λ (numbers : Numbers). values_of (numbers_of_value (asked_host c.args.pred.now) numbers))
    c.list_for.ensures in
    subst (AreLive slots.events.values) (sym are)
    (asked-live slots.numbers slots.events.values c.requires.linked (asked_host c.args.pred.now))

pub returns-clause-ok : goal.returns-clause-ok
returns-clause-ok g c =
    let slots = c.args.self.now in
    let are : c.as_slice.result.now ≡ values_of (numbers_of_value (asked_host c.args.pred.now) slots.numbers) =
    c.as_slice.ensures.value ∙ c.in_ok-numbers.ensures.numbers
    ∙ ap (λ (numbers : Numbers). values_of (numbers_of_value (asked_host c.args.pred.now) numbers))
    c.list_for.ensures in
    still_ok c.found_len_at.result
    (ap (λ numbers. reply_len (filter (holds c.args.pred.now) (events_at slots.events.values numbers)))
    are
    ∙ ap reply_len
    (asked-search slots.numbers slots.events.values c.requires.linked (holds c.args.pred.now)
    (asked_host c.args.pred.now) c.numbers_for.ensures.needs))
    c.found_len_at.ensures.ok

pub returns-clause-counted : goal.returns-clause-counted
returns-clause-counted g c =
    let slots = c.args.self.now in
    let are : c.as_slice.result.now ≡ values_of (numbers_of_value (asked_host c.args.pred.now) slots.numbers) =
    c.as_slice.ensures.value ∙ c.in_ok-numbers.ensures.numbers
    ∙ ap (λ (numbers : Numbers). values_of (numbers_of_value (asked_host c.args.pred.now) numbers))
    c.list_for.ensures in
    let count =
    asked-count slots.numbers slots.events.values c.requires.linked (asked_host c.args.pred.now) c.as_slice.result.now
    are in
    on_ok_weaker c.found_len_at.result (λ counted. omega (arith, count, counted)) c.found_len_at.ensures.counted

pub returns-clause-entries : goal.returns-clause-entries
returns-clause-entries g c =
    let slots = c.args.self.now in
    let are : c.as_slice.result.now ≡ values_of (numbers_of_value (asked_host c.args.pred.now) slots.numbers) =
    c.as_slice.ensures.value ∙ c.in_ok-numbers.ensures.numbers
    ∙ ap (λ (numbers : Numbers). values_of (numbers_of_value (asked_host c.args.pred.now) numbers))
    c.list_for.ensures in
    let count =
    asked-count slots.numbers slots.events.values c.requires.linked (asked_host c.args.pred.now) c.as_slice.result.now
    are in
    omega (arith, count, c.found_len_at.ensures.entries)
