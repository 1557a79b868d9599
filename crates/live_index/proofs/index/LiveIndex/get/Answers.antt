use Rattle.std.proofs.Common.{refl, sym, ap, ◌∙◌}
use Rattle.std.specs.Prelude.{option_copied}
use Rattle.live_index.specs.Index.{event_at}
use Rattle.live_index.specs.Slots.{events_in}
use Rattle.live_index.proofs.FindLaws.{find-at}
use Rattle.live_index.proofs.RowLaws.{find-events}
use Rattle.live_index.proofs.SlotsLaws.{not_poisoned}
use Rattle.live_index.proofs.index.LiveIndex.get.Goals as goal

pub returns : goal.returns
returns g c =
    let numbers = c.self.inside.slots.numbers in
    let table = c.self.inside.slots.events.values in
    let host = option_copied c.args.host in
    let service = option_copied c.args.service in (
      (refl, λ _. tt, c.self.view_is),
      record {
        same = tt;
        event = c.get.ensures.event
            ∙ sym (find-at host service (events_in numbers table)
            ∙ find-events numbers table (c.self.invariant.0 c.if-self.false).linked (host, service))
            ∙ ap (event_at host service)
            (not_poisoned c.self.inside.poisoned numbers table c.if-self.false
            ∙ ap (λ index. index.events) c.self.view_is);
        forks = c.get.ensures.forks;
        found = c.get.ensures.found;
        absent = c.get.ensures.absent;
        entries = c.get.ensures.entries;
        began = c.get.ensures.began;
      },
    )
