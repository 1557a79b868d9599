use Rattle.std.proofs.Common.{[], ◌∷◌, ◌++◌, take, get_or, refl, sym, ◌∙◌, subst}
use Rattle.std.proofs.lemmas.List.{take_more}
use Rattle.live_index.specs.Slots.{IsTaking}
use Rattle.live_index.proofs.TakeLaws.{taking-start}
use Rattle.live_index.proofs.slots.Slots.take_all.Goals as goal

pub loop-number-init : goal.loop-number-init
loop-number-init g c = record {
  linked = c.requires.linked;
  counted = c.requires.counted;
  due = refl;
  taking =
      taking-start c.args.self.now.numbers c.args.self.now.events.values c.new-events.result.keys
      c.new-events.ensures.empty c.requires.linked;
}

pub loop-number-preserved : goal.loop-number-preserved
loop-number-preserved g c =
    let slots = c.args.self.now in
    let numbers = c.args.numbers.now in
    let i = c.loop-number.number-index in
    let after = c.take_into.new.self in
    let next : IsTaking (take i numbers ++ get_or numbers i 0 ∷ []) slots.numbers slots.events.values after.numbers
    after.events.values c.take_into.new.events.keys =
    c.in_ok-take_into.ensures.step (take i numbers) slots.numbers slots.events.values c.loop-number.invariant.taking in
    record {
      linked = c.in_ok-take_into.ensures.linked;
      counted = c.in_ok-take_into.ensures.counted;
      due = c.take_into.ensures.due ∙ c.loop-number.invariant.due;
      taking =
          subst
          (λ ids.
          IsTaking ids slots.numbers slots.events.values after.numbers after.events.values c.take_into.new.events.keys)
          (sym (take_more numbers i 0 c.loop-number-test.true)) next;
    }
