use Rattle.index_log.proofs.PlacedLaws.{live-permutes}
use Rattle.index_log.proofs.live_events_are_kept.Goals as goal

pub returns : goal.returns
returns c = live-permutes
