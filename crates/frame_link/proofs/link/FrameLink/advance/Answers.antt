use Rattle.std.proofs.Common.{◌≡◌, ap, ◌∙◌, refl}
use Rattle.framing.specs.Frames.{first_body, after_frame}
use Rattle.framing.proofs.FrameLaws.{represents_first}
use Rattle.frame_link.proofs.LinkLaws.{link_hands_out, stays_open}
use Rattle.frame_link.proofs.link.FrameLink.advance.Goals as goal

later_is : (c : goal.After-advance) → c.advance.new.self ≡ after_frame c.args.self.now.bytes
later_is c =
    let seen : c.self.inside.buffer ≡ c.args.self.now.bytes = ap (λ held. held.bytes) c.self.view_is in
    c.advance.ensures ∙ rw (seen, c.requires.size) refl

pub returns-clause-removes : goal.returns-clause-removes
returns-clause-removes c =
    let whole = rw (← c.self.view_is) at c.requires.whole in
    link_hands_out c.args.self.now _ (first_body c.args.self.now.bytes) c.requires.whole refl (later_is c)
    (stays_open c.self.inside.buffer c.self.inside.stopped whole c.self.invariant)

pub returns-clause-keeps : goal.returns-clause-keeps
returns-clause-keeps c handed came old =
    rw (later_is c) (represents_first c.args.self.now.bytes handed came c.requires.whole old)
