use Rattle.stream_meaning.proofs.OutputLaws.{outputs_said, outputs_grow}
use Rattle.stream_meaning.proofs.law.outputs_are_in_order.Goals as goal

pub returns-clause-entry : goal.returns-clause-entry
returns-clause-entry c = outputs_said

pub returns-clause-history : goal.returns-clause-history
returns-clause-history c = outputs_grow
