use Rattle.packed_event.proofs.Recognised.{packed_is_read}
use Rattle.packed_event.proofs.law.packed_events_are_read.Goals as goal

pub returns : goal.returns
returns c = packed_is_read
