use Rattle.stream_meaning.proofs.MetLaws.{deadlines_met}
use Rattle.stream_meaning.proofs.StayLaws.{deadlines_stay, deadlines_ahead, deadlines_first}
use Rattle.stream_meaning.proofs.law.deadlines_are_first.Goals as goal

pub returns-clause-ahead : goal.returns-clause-ahead
returns-clause-ahead c = deadlines_ahead

pub returns-clause-met : goal.returns-clause-met
returns-clause-met c = deadlines_met

pub returns-clause-stay : goal.returns-clause-stay
returns-clause-stay c = deadlines_stay

pub returns-clause-first : goal.returns-clause-first
returns-clause-first c = deadlines_first
