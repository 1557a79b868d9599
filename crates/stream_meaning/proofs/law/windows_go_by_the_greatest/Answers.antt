use Rattle.stream_meaning.proofs.GreatestLaws.{greatest_reached, moving_time_goes_by_the_greatest}
use Rattle.stream_meaning.proofs.GreatestLaws.{fixed_time_goes_by_the_greatest, events_lie_in_their_stretch}
use Rattle.stream_meaning.proofs.law.windows_go_by_the_greatest.Goals as goal

pub returns-clause-greatest : goal.returns-clause-greatest
returns-clause-greatest c = greatest_reached

pub returns-clause-moving : goal.returns-clause-moving
returns-clause-moving c = moving_time_goes_by_the_greatest

pub returns-clause-fixed : goal.returns-clause-fixed
returns-clause-fixed c = fixed_time_goes_by_the_greatest

pub returns-clause-stretch : goal.returns-clause-stretch
returns-clause-stretch c = events_lie_in_their_stretch
