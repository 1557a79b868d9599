use Rattle.std.proofs.Common.{ap, ◌∙◌}
use Rattle.hub_link.specs.hub_meaning.Links.{is_over_as}
use Rattle.hub_link.proofs.LinkLaws.{tells_over}
use Rattle.hub_link.proofs.link.HubLink.is_over.Goals as goal

pub returns : goal.returns
returns c meant is =
    tells_over c.args.self.now meant c.is_over.result
    (c.is_over.ensures ∙ ap (is_over_as c.args.self.now.stage) c.len.ensures) is
