use Rattle.std.proofs.Common.{◌≡◌, ap, refl, ◌∙◌}
use Rattle.frame_link.proofs.LinkLaws.{link_waits, link_stops}
use Rattle.frame_link.proofs.link.FrameLink.take.Goals as goal

pub returns-in-Partial-clause-takes : goal.returns-in-Partial-clause-takes
returns-in-Partial-clause-takes c =
    let seen : c.as_slice.result.now ≡ c.args.self.now.bytes =
    c.as_slice.ensures ∙ ap (λ held. held.bytes) c.self.view_is in
    let sees = rw seen at c.in-Partial.ensures in
    link_waits c.args.self.now sees.0 sees.1

pub returns-in-Oversized-clause-takes : goal.returns-in-Oversized-clause-takes
returns-in-Oversized-clause-takes c =
    let seen : c.as_slice.result.now ≡ c.args.self.now.bytes =
    c.as_slice.ensures ∙ ap (λ held. held.bytes) c.self.view_is in
    let sees = rw seen at c.in-Oversized.ensures in
    link_stops c.args.self.now _ c.in-Oversized.length sees.0 sees.1 (ap (λ held. held.bytes) c.self.view_is) refl
