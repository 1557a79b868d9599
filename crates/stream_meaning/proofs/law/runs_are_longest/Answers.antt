use Rattle.stream_meaning.proofs.RunLaws.{runs_are_longest, runs_begin_with_their_first}
use Rattle.stream_meaning.proofs.law.runs_are_longest.Goals as goal

pub returns-clause-longest : goal.returns-clause-longest
returns-clause-longest c = runs_are_longest

pub returns-clause-began : goal.returns-clause-began
returns-clause-began c = runs_begin_with_their_first
