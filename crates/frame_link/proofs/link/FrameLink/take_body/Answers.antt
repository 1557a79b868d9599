use Rattle.std.proofs.Common.{◌≡◌, ◌+◌, ◌-◌, ap, ◌∙◌, refl, arith}
use Rattle.framing.specs.Frames.{length_at, first_body}
use Rattle.frame_link.proofs.link.FrameLink.take_body.Goals as goal

body_is : (c : goal.After-advance) → c.in-Ok.body ≡ first_body c.args.self.now.bytes
body_is c =
    let seen : c.as_slice.result.now ≡ c.args.self.now.bytes =
    c.as_slice.ensures ∙ ap (λ held. held.bytes) c.self.view_is in
    let size : (4 + c.args.length) - 4 ≡ length_at c.args.self.now.bytes = omega arith in
    c.in-Ok.ensures ∙ rw (size, seen) refl

pub returns-clause-takes : goal.returns-clause-takes
returns-clause-takes c = rw (body_is c) c.advance.ensures.removes

pub returns-clause-keeps : goal.returns-clause-keeps
returns-clause-keeps c handed came old = rw (body_is c) (c.advance.ensures.keeps handed came old)
