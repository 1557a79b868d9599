use Rattle.std.proofs.Common.{◌≡◌, take}
use Rattle.std.specs.List.{flat_map}
use Rattle.framing.specs.Frames.{frame}
use Rattle.riemann_client.proofs.requests.frame_all.Given as goal

abbrev pub invariant-loop-body : goal.invariant-loop-body
invariant-loop-body l = l.frames ≡ flat_map frame (take l.body-index l.bodies)
