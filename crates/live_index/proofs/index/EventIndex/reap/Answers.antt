use Rattle.std.proofs.Common.{refl, sym, ap, ◌∙◌, not, filter, ◌++◌}
use Rattle.ev_types.specs.Expiry.{is_expired}
use Rattle.index_log.proofs.LiveLaws.{live-expired}
use Rattle.live_index.proofs.SlotsLaws.{not_poisoned}
use Rattle.live_index.proofs.index.EventIndex.reap.Goals as goal

pub returns-clause-ok : goal.returns-clause-ok
returns-clause-ok g c = λ log before. record {
  sound = refl;
  live = c.in_ok-take_expired.ensures.kept
      ∙ ap (filter (λ event. not (is_expired c.args.now event)))
      (not_poisoned c.self.inside.poisoned c.self.inside.slots.numbers c.self.inside.slots.events.values c.if-self.false
      ∙ ap (λ index. index.events) c.self.view_is ∙ before.live)
      ∙ sym (live-expired log c.args.now);
}

pub returns-clause-expired : goal.returns-clause-expired
returns-clause-expired g c =
    c.in_ok-take_expired.ensures.gone
    ∙ ap (λ events. c.args.out.now ++ filter (is_expired c.args.now) events)
    (not_poisoned c.self.inside.poisoned c.self.inside.slots.numbers c.self.inside.slots.events.values c.if-self.false
    ∙ ap (λ index. index.events) c.self.view_is)
