use Rattle.stream_plan.proofs.PathLaws.{paths_lead}
use Rattle.stream_plan.proofs.law.paths_lead_to_their_streams.Goals as goal

pub returns : goal.returns
returns c = paths_lead
