use Rattle.hub_meaning.proofs.RunLaws.{state_append, legal_append}
use Rattle.hub_meaning.proofs.law.steps_come_in_order.Goals as goal

pub returns-clause-order : goal.returns-clause-order
returns-clause-order c = state_append

pub returns-clause-legal : goal.returns-clause-legal
returns-clause-legal c = legal_append
