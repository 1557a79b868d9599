use Rattle.std.proofs.Common.{ap, ◌∙◌}
use Rattle.std.specs.List.{flat_map}
use Rattle.framing.specs.Frames.{frame}
use Rattle.riemann_client.proofs.RequestLaws.{frames_of_requests}
use Rattle.riemann_client.proofs.client.Client.fresh.Goals as goal

pub returns-clause-requests : goal.returns-clause-requests
returns-clause-requests c =
    frames_of_requests _ c.args.requests.now
    (c.over.ensures.stream ∙ c.in_ok-frames.ensures ∙ ap (flat_map frame) c.as_slice.ensures) c.requires.within
