use Rattle.pb_wire.proofs.SpellingLaws.{spelling_is, spelling_shortest}
use Rattle.pb_wire.proofs.law.written_is_shortest.Goals as goal

pub returns : goal.returns
returns c = λ value is. (spelling_is value is, λ text spelled. spelling_shortest value text spelled)
