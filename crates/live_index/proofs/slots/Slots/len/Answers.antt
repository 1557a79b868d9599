use Rattle.std.proofs.Common.{sym, ◌∙◌}
use Rattle.live_index.proofs.RowLaws.{length-events}
use Rattle.live_index.proofs.slots.Slots.len.Goals as goal

pub returns : goal.returns
returns g c =
    c.requires.counted ∙ sym (length-events c.args.self.now.numbers c.args.self.now.events.values c.requires.linked)
