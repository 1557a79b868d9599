use Rattle.std.proofs.Common.{refl, sym, ◌∙◌}
use Rattle.rate_streams.proofs.ThrottleLaws.{fresh_represents}
use Rattle.rate_streams.proofs.throttle.ThrottleState.fresh.Goals as goal

pub returns-clause-represents : goal.returns-clause-represents
returns-clause-represents c h alone begins =
    fresh_represents _ h refl (c.new.ensures.start ∙ sym begins) refl refl alone
