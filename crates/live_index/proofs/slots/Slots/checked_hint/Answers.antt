use Rattle.std.proofs.Common.{sym, ap, ◌∙◌}
use Rattle.key_map.specs.Keys.{number_at}
use Rattle.live_index.proofs.slots.Slots.checked_hint.Goals as goal

pub returns-then-is : goal.returns-then-is
returns-then-is g c =
    ap (λ key. number_at key c.args.self.now.numbers)
    (sym (c.is.ensures.0 c.if-is.true) ∙ c.key.ensures)
    ∙ c.requires.placed c.args.number c.read-known.result.now c.read-known.ensures.value
