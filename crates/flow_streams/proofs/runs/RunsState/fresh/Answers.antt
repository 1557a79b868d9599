use Rattle.std.proofs.Common.{None, refl, sym}
use Rattle.flow_streams.proofs.KeptLaws.{last_value-ticks, counted-ticks}
use Rattle.flow_streams.proofs.runs.RunsState.fresh.Goals as goal

pub returns-clause-represents : goal.returns-clause-represents
returns-clause-represents c h alone begins = record {
  sound = refl;
  last = sym (last_value-ticks c.args.params.field None h alone);
  length = counted-ticks c.args.params.count c.args.params.field h alone;
}
