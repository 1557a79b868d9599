use Rattle.stream_meaning.proofs.ForkLaws.{keys_apart}
use Rattle.stream_meaning.proofs.KeyOrderLaws.{keys_are_those_that_came, keys_stay_in_order}
use Rattle.stream_meaning.proofs.law.keys_come_in_order.Goals as goal

pub returns-clause-came : goal.returns-clause-came
returns-clause-came c = keys_are_those_that_came

pub returns-clause-apart : goal.returns-clause-apart
returns-clause-apart c = keys_apart

pub returns-clause-order : goal.returns-clause-order
returns-clause-order c = keys_stay_in_order
