use Rattle.std.proofs.Common.{refl, subst}
use Rattle.riemann_client.specs.Accepting.{AcceptsFront}
use Rattle.riemann_client.proofs.AcceptLaws.{same_then, so_far_end, so_far_fault, so_far_more, so_far_nothing}
use Rattle.riemann_client.proofs.replies.accept_all.Goals as goal

pub frames-init : goal.frames-init
frames-init c = record {
  same = record { stream = refl; taken = refl };
  so_far = so_far_nothing c.args.now c.args.input.now c.args.requests.now c.args.replies.now;
}

pub frames-preserved : goal.frames-preserved
frames-preserved c = record {
  same =
      same_then c.args.requests.now c.frames.requests c.accept_front.new.requests c.frames.invariant.same
      c.in_ok-accept_front.ensures.same;
  so_far =
      so_far_more c.args.now c.args.input.now c.frames.input c.accept_front.new.input c.args.requests.now
      c.frames.requests c.accept_front.new.requests
      c.args.replies.now c.frames.replies c.accept_front.new.replies c.frames.invariant.same c.frames.invariant.so_far
      (subst (AcceptsFront c.args.now c.frames.input c.accept_front.new.input c.frames.requests
      c.accept_front.new.requests c.frames.replies c.accept_front.new.replies)
      c.in-Accepted.is c.in_ok-accept_front.ensures.accepts);
}

pub returns-in-NotWhole-clause-accepts : goal.returns-in-NotWhole-clause-accepts
returns-in-NotWhole-clause-accepts c =
    so_far_end c.args.now c.args.input.now c.frames.input c.accept_front.new.input c.args.requests.now c.frames.requests
    c.accept_front.new.requests
    c.args.replies.now c.frames.replies c.accept_front.new.replies c.frames.invariant.same c.frames.invariant.so_far
    (subst (AcceptsFront c.args.now c.frames.input c.accept_front.new.input c.frames.requests
    c.accept_front.new.requests c.frames.replies c.accept_front.new.replies)
    c.in-NotWhole.is c.in_ok-accept_front.ensures.accepts)

pub returns-in-Faulty-clause-accepts : goal.returns-in-Faulty-clause-accepts
returns-in-Faulty-clause-accepts c =
    so_far_fault c.args.now c.args.input.now c.frames.input c.accept_front.new.input c.args.requests.now
    c.frames.requests c.accept_front.new.requests
    c.args.replies.now c.frames.replies c.accept_front.new.replies c.frames.invariant.same c.frames.invariant.so_far
    c.in-Faulty.fault
    (subst (AcceptsFront c.args.now c.frames.input c.accept_front.new.input c.frames.requests
    c.accept_front.new.requests c.frames.replies c.accept_front.new.replies)
    c.in-Faulty.is c.in_ok-accept_front.ensures.accepts)
