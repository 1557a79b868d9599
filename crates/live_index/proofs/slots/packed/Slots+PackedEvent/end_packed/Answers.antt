use Rattle.std.proofs.Common.{◌≡◌, None, sym, ap, ◌∙◌, subst}
use Rattle.std.specs.Option.{option_copied}
use Rattle.key_map.specs.Keys.{IndexKey}
use Rattle.live_index.specs.Slots.{key_of, Puts}
use Rattle.live_index.proofs.SlotsLaws.{key-is}
use Rattle.live_index.proofs.slots.packed.Slots+PackedEvent.end_packed.Goals as goal

pub returns-clause-puts : goal.returns-clause-puts
returns-clause-puts c =
    subst (λ (k : IndexKey). Puts k None c.args.self.now.numbers c.args.self.now.events.values c.end.new.self.numbers
    c.end.new.self.events.values)
    (key-is c.args.event.now (option_copied c.as_ref.result) (option_copied c.as_ref-2.result)
    (c.as_ref.ensures.value ∙ c.in_ok-host.ensures ∙ c.host.ensures)
    (c.as_ref-2.ensures.value ∙ c.in_ok-service.ensures ∙ c.service.ensures))
    c.end.ensures.puts
