use Rattle.index_log.proofs.Rising.{live-rising}
use Rattle.index_log.proofs.live_events_rise.Goals as goal

pub returns : goal.returns
returns c = live-rising
