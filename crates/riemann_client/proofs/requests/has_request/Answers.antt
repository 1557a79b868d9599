use Rattle.std.proofs.Common.{◌∙◌}
use Rattle.riemann_client.proofs.RequestLaws.{tells_request}
use Rattle.riemann_client.proofs.requests.has_request.Goals as goal

pub returns : goal.returns
returns c = c.is_some.ensures ∙ tells_request c.args.frames.now c.first_frame_len.result c.first_frame_len.ensures
