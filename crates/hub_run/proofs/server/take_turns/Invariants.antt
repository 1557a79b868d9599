use Rattle.std.proofs.Common.{◌≡◌, false, length}
use Rattle.conn_core.specs.Hub.{has_stopped}
use Rattle.hub_run.specs.Runs.{run_report}
use Rattle.hub_run.proofs.LoopLaws.{SoFar}
use Rattle.hub_run.proofs.server.take_turns.Given as goal

abbrev pub invariant-loop-taken : goal.invariant-loop-taken
invariant-loop-taken g l = record {
  whole : length l.buf ≡ 65536;
  going : has_stopped l.hub ≡ false;
  so_far : SoFar (g.L.Links.report l.fn.links) (g.L.Links.report l.links) l.fn.quiet l.fn.hub l.hub
      (run_report (g.P.Patterns.report l.fn.patterns) l.fn.steps.forks (g.O.Sink.report l.fn.sink))
      (run_report (g.P.Patterns.report l.patterns) l.steps.forks (g.O.Sink.report l.sink)) l.taken;
  links_still : (g.L.Links.report l.links).faults ≡ (g.L.Links.report l.fn.links).faults;
  sink_still : (g.O.Sink.report l.sink).faults ≡ (g.O.Sink.report l.fn.sink).faults;
}
