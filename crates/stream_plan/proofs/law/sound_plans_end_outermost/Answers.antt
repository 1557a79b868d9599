use Rattle.stream_plan.proofs.NestingLaws.{ends_outermost}
use Rattle.stream_plan.proofs.law.sound_plans_end_outermost.Goals as goal

pub returns : goal.returns
returns c = ends_outermost
