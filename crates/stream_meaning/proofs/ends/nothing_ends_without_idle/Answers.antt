use Rattle.stream_meaning.proofs.LiveLaws.{nothing_ends_without_idle}
use Rattle.stream_meaning.proofs.ends.nothing_ends_without_idle.Goals as goal

pub returns : goal.returns
returns c = nothing_ends_without_idle
