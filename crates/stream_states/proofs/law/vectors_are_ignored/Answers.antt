use Rattle.stream_states.proofs.VectorLaws.{vectors_pass_nothing, vectors_are_ignored}
use Rattle.stream_states.proofs.law.vectors_are_ignored.Goals as goal

pub returns-clause-emissions : goal.returns-clause-emissions
returns-clause-emissions c = vectors_pass_nothing

pub returns-clause-states : goal.returns-clause-states
returns-clause-states c = vectors_are_ignored
