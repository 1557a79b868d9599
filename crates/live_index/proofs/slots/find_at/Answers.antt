use Rattle.std.proofs.Common.{◌++◌, arith, ap, ◌∙◌, filter, take}
use Rattle.std.proofs.lemmas.List.{length-take-le}
use Rattle.pred_eval.specs.Truth.{holds}
use Rattle.live_index.specs.Index.{events_lent}
use Rattle.live_index.specs.Slots.{events_at}
use Rattle.live_index.proofs.CopyLaws.{copied_on, on_err}
use Rattle.live_index.proofs.FirstLaws.{few_on, first_are, found-at_most, found_since}
use Rattle.live_index.proofs.slots.find_at.Goals as goal

pub loop-number-preserved : goal.loop-number-preserved
loop-number-preserved g c =
    let before = c.loop-number.invariant in
    let i = c.loop-number.number-index in
    let test = holds c.args.pred.now in
    let so_far = filter test (events_at c.args.events.now.values (take i c.args.numbers.now)) in
    let since = found_since c.args.found.now.items c.loop-number.found.items so_far before.found in
    record {
      same = c.find_one.ensures.same ∙ before.same;
      found =
          copied_on test (holds c.loop-number.pred) c.args.events.now.values c.args.numbers.now i
          c.read-event.result.now
          (events_lent c.args.found.now.items) (events_lent c.loop-number.found.items)
          (events_lent c.find_one.new.found.items) (ap holds before.same)
          before.found c.in_ok-find_one.ensures.ok c.loop-number-test.true
          c.read-event.ensures.value;
      few =
          few_on test c.args.events.now.values c.args.numbers.now i c.args.limit c.loop-number-test.true
          (omega (arith, before.few, since, c.len.ensures, c.len-before.ensures, c.if-len-before.false));
      forks = c.read-event.ensures.forks ∙ before.forks;
      entries = omega (arith, c.read-event.ensures.entries, before.entries);
      began = c.read-event.ensures.began ∙ before.began;
    }

pub returns-in_err-find_one-clause-prefix : goal.returns-in_err-find_one-clause-prefix
returns-in_err-find_one-clause-prefix g c =
    on_err c.from_residual.result (
      filter (holds c.args.pred.now)
          (events_at c.args.events.now.values (take c.loop-number.number-index c.args.numbers.now)),
      c.in_err-find_one.ensures.err ∙ c.loop-number.invariant.found,
    )

pub returns-then-len-before-clause-ok : goal.returns-then-len-before-clause-ok
returns-then-len-before-clause-ok g c =
    let before = c.loop-number.invariant in
    let i = c.loop-number.number-index in
    let test = holds c.args.pred.now in
    let so_far = filter test (events_at c.args.events.now.values (take i c.args.numbers.now)) in
    let since = found_since c.args.found.now.items c.loop-number.found.items so_far before.found in
    before.found
    ∙ ap (λ events. events_lent c.args.found.now.items ++ events)
    (first_are test c.args.events.now.values c.args.numbers.now i c.args.limit
    (omega (arith, since, c.len.ensures, c.len-before.ensures, c.if-len-before.true)))

pub returns-then-len-before-clause-counted : goal.returns-then-len-before-clause-counted
returns-then-len-before-clause-counted g c = λ small.
    let before = c.loop-number.invariant in
    let i = c.loop-number.number-index in
    let test = holds c.args.pred.now in
    let so_far = filter test (events_at c.args.events.now.values (take i c.args.numbers.now)) in
    let since = found_since c.args.found.now.items c.loop-number.found.items so_far before.found in
    omega (
      arith,
      small,
      since,
      found-at_most test c.args.events.now.values (take i c.args.numbers.now),
      length-take-le i c.args.numbers.now (omega (arith, c.loop-number-test.true)),
      c.len.ensures,
      c.len-before.ensures,
      c.if-len-before.true,
      c.loop-number-test.true,
    )
