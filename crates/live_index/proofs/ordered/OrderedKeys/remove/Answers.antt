use Rattle.std.proofs.Common.{sym, ◌∙◌}
use Rattle.std.specs.Option.{option_copied}
use Rattle.live_index.proofs.SlotsLaws.{still_listed, unchanged}
use Rattle.live_index.proofs.ordered.OrderedKeys.remove.Goals as goal

pub invariant_of-self : goal.invariant_of-self
invariant_of-self c = (
  c.remove.ensures.rising,
  still_listed c.self.inside.order c.self.inside.keys c.remove.new.self
      (unchanged c.self.inside.keys c.remove.new.self (option_copied c.args.host, option_copied c.args.service)
      c.self.invariant.0 c.remove.ensures.rising (sym c.remove.ensures.number ∙ c.in_err-number.was)
      c.remove.ensures.removed)
      c.self.invariant.1,
)
