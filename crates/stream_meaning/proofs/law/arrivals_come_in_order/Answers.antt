use Rattle.stream_meaning.proofs.ArrivalMoments.{arrivals_in_order, arrivals_are_moments}
use Rattle.stream_meaning.proofs.law.arrivals_come_in_order.Goals as goal

pub returns-clause-order : goal.returns-clause-order
returns-clause-order c = arrivals_in_order

pub returns-clause-moments : goal.returns-clause-moments
returns-clause-moments c = arrivals_are_moments
