use Rattle.std.proofs.Common.{◌≡◌, false, ap, sym, ◌∙◌}
use Rattle.framing.proofs.FrameLaws.{represents_more}
use Rattle.frame_link.specs.Held.{Held}
use Rattle.frame_link.proofs.link.FrameLink.push.Goals as goal

pub returns-in_ok-push-clause-keeps : goal.returns-in_ok-push-clause-keeps
returns-in_ok-push-clause-keeps c handed came old =
    let open_yet : c.args.self.now.stopped ≡ false =
    ap (λ (held : Held). held.stopped) (sym c.self.view_is) ∙ c.if-not-self.true in
    let grown = represents_more c.args.self.now.bytes handed came c.args.piece.now old in
    rw (open_yet, c.in_ok-push.ensures.ok) (rw (← c.self.view_is) at grown)
