use Rattle.std.proofs.Common.{◌≡◌, false, length}
use Rattle.riemann_client.specs.Client.{is_ended}
use Rattle.client_run.proofs.LoopLaws.{SoFar}
use Rattle.client_run.proofs.run.take_turns.Given as goal

abbrev pub invariant-loop-taken : goal.invariant-loop-taken
invariant-loop-taken g l = record {
  whole : length l.buf ≡ 65536;
  going : is_ended l.client ≡ false;
  so_far : SoFar (g.L.Links.report l.fn.links) (g.L.Links.report l.links) l.fn.client l.client l._taken;
  links_still : (g.L.Links.report l.links).faults ≡ (g.L.Links.report l.fn.links).faults;
}
