use Rattle.stream_meaning.proofs.MomentLaws.{moments_counted, branch_moments, windows}
use Rattle.stream_meaning.proofs.law.windows_follow_moments.Goals as goal

pub returns-clause-moments : goal.returns-clause-moments
returns-clause-moments c = moments_counted

pub returns-clause-branches : goal.returns-clause-branches
returns-clause-branches c = branch_moments

pub returns-clause-windows : goal.returns-clause-windows
returns-clause-windows c = windows
