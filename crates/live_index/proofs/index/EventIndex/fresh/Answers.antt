use Rattle.std.proofs.Common.{refl, sym, ◌∙◌}
use Rattle.index_log.proofs.LiveLaws.{live-nil}
use Rattle.live_index.proofs.index.EventIndex.fresh.Goals as goal

pub returns : goal.returns
returns g c = record { sound = refl; live = c.fresh.ensures.events ∙ sym live-nil }
