use Rattle.std.proofs.Common.{arith, ap, refl, sym, ◌∙◌}
use Rattle.pred_eval.specs.Truth.{holds}
use Rattle.stored_event.proofs.ReplyLengths.{empty_len}
use Rattle.live_index.proofs.LengthLaws.{measured_on}
use Rattle.live_index.proofs.slots.found_len_at.Goals as goal

pub loop-number-init : goal.loop-number-init
loop-number-init g c = record {
  same = refl;
  events = refl;
  len = sym empty_len;
  forks = refl;
  entries = omega arith;
  began = refl;
}

pub loop-number-preserved : goal.loop-number-preserved
loop-number-preserved g c =
    let before = c.loop-number.invariant in
    let i = c.loop-number.number-index in
    record {
      same = c.added_len.ensures.same ∙ before.same;
      events = c.added_len.ensures.events ∙ before.events;
      len =
          c.in_ok-len.ensures
          ∙ measured_on (holds c.args.pred.now) (holds c.loop-number.pred) c.args.events.now.values
          c.loop-number.events.values c.args.numbers.now i c.loop-number.len c.in_ok-added.added
          (ap holds before.same) before.events before.len c.in_ok-added.ensures.ok c.loop-number-test.true;
      forks = c.added_len.ensures.forks ∙ before.forks;
      entries = omega (arith, c.added_len.ensures.entries, before.entries);
      began = c.added_len.ensures.began ∙ before.began;
    }
