use Rattle.stream_meaning.proofs.VectorLaws.{vectors_not_empty}
use Rattle.stream_meaning.proofs.law.vectors_are_not_empty.Goals as goal

pub returns : goal.returns
returns c = vectors_not_empty
