use Rattle.stream_meaning.proofs.FoldLaws.{minimum_is, maximum_is, sums_add, sum_is_held}
use Rattle.stream_meaning.proofs.law.folds_are_of_all_metrics.Goals as goal

pub returns-clause-minimum : goal.returns-clause-minimum
returns-clause-minimum c = minimum_is

pub returns-clause-maximum : goal.returns-clause-maximum
returns-clause-maximum c = maximum_is

pub returns-clause-sum : goal.returns-clause-sum
returns-clause-sum c = sum_is_held

pub returns-clause-sums : goal.returns-clause-sums
returns-clause-sums c = sums_add
