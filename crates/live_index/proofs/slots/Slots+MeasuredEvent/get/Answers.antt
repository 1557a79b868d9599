use Rattle.std.proofs.Common.{sym}
use Rattle.std.specs.Prelude.{option_copied}
use Rattle.live_index.proofs.SlotsLaws.{live_found}
use Rattle.live_index.proofs.slots.Slots+MeasuredEvent.get.Goals as goal

pub read-requires : goal.read-requires
read-requires g c =
    live_found c.args.self.now.numbers c.args.self.now.events.values
    (option_copied c.args.host, option_copied c.args.service) c.in_ok-number.number c.requires.linked
    (sym c.in_ok-number.ensures.number)
