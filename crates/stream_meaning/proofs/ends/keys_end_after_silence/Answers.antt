use Rattle.stream_meaning.proofs.EndLaws.{last_moments_are_last, ends_follow_silence, ends_are_apart}
use Rattle.stream_meaning.proofs.ends.keys_end_after_silence.Goals as goal

pub returns-clause-last : goal.returns-clause-last
returns-clause-last c = last_moments_are_last

pub returns-clause-ends : goal.returns-clause-ends
returns-clause-ends c = ends_follow_silence

pub returns-clause-apart : goal.returns-clause-apart
returns-clause-apart c = ends_are_apart
