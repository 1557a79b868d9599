use Rattle.std.proofs.Common.{ap, ◌∙◌, filter, length, ◌+◌}
use Rattle.std.proofs.lemmas.Result.{on_ok_weaker}
use Rattle.pred_eval.specs.Truth.{holds}
use Rattle.live_index.specs.Index.{reply_len, visited}
use Rattle.live_index.proofs.LengthLaws.{still_all_len, still_index, still_ok, still_stored}
use Rattle.live_index.proofs.SlotsLaws.{not_poisoned}
use Rattle.live_index.proofs.index.EventIndex.found_len.Goals as goal

pub found_len-requires : goal.found_len-requires
found_len-requires g c = c.self.invariant.0 c.if-self.false

pub invariant_of-self : goal.invariant_of-self
invariant_of-self g c = (
  λ sound.
      still_stored c.self.inside.slots.numbers c.found_len.new.self.numbers c.self.inside.slots.events.values
      c.found_len.new.self.events.values c.self.inside.slots.due c.found_len.new.self.due c.self.inside.slots.count
      c.found_len.new.self.count c.found_len.ensures.numbers c.found_len.ensures.events c.found_len.ensures.due
      c.found_len.ensures.count (c.self.invariant.0 sound),
  still_all_len c.self.inside.all_len c.self.inside.poisoned c.self.inside.slots.numbers
      c.found_len.new.self.numbers c.self.inside.slots.events.values c.found_len.new.self.events.values
      c.found_len.ensures.numbers c.found_len.ensures.events c.self.invariant.1,
)

pub returns-clause-same : goal.returns-clause-same
returns-clause-same g c =
    still_index c.self.inside.poisoned c.self.inside.slots.numbers c.found_len.new.self.numbers
    c.self.inside.slots.events.values c.found_len.new.self.events.values c.args.self.now c.found_len.ensures.numbers
    c.found_len.ensures.events c.self.view_is

pub returns-clause-ok : goal.returns-clause-ok
returns-clause-ok g c =
    still_ok c.found_len.result
    (ap (λ events. reply_len (filter (holds c.args.pred.now) events))
    (not_poisoned c.self.inside.poisoned c.self.inside.slots.numbers c.self.inside.slots.events.values c.if-self.false
    ∙ ap (λ index. index.events) c.self.view_is))
    c.found_len.ensures.ok

pub returns-clause-counted : goal.returns-clause-counted
returns-clause-counted g c =
    on_ok_weaker c.found_len.result
    (λ counted. counted
    ∙ ap (λ events. c.args.steps.now.entries + length (visited c.args.pred.now events))
    (not_poisoned c.self.inside.poisoned c.self.inside.slots.numbers c.self.inside.slots.events.values c.if-self.false
    ∙ ap (λ index. index.events) c.self.view_is))
    c.found_len.ensures.counted
