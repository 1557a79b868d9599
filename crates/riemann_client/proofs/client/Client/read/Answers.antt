use Rattle.std.proofs.Common.{ℕ, length, subst, sym, ◌∙◌, refl}
use Rattle.riemann_client.specs.Accepting.{AcceptsAll}
use Rattle.riemann_client.specs.Requests.{HasAnswered}
use Rattle.riemann_client.specs.declared.client.Client.{Client}
use Rattle.riemann_client.proofs.HearLaws.{reads_piece}
use Rattle.riemann_client.proofs.client.Client.read.Goals as goal

pub returns-clause-reads : goal.returns-clause-reads
returns-clause-reads c before is =
    let after : Client = record c.args.self.now {
      input = c.accept_all.new.input;
      requests = c.accept_all.new.requests;
      replies = c.accept_all.new.replies;
    } in
    reads_piece c.args.self.now after before c.args.number c.args.piece.now c.push.new.self c.in_ok-fault.fault
    (sym c.is_on.ensures ∙ c.if-not-is_on.false) c.in_ok-push.ensures.ok
    (subst (λ (now : ℕ). HasAnswered c.args.self.now.requests (length c.args.self.now.replies)
    → AcceptsAll now c.push.new.self c.accept_all.new.input c.args.self.now.requests c.accept_all.new.requests
    c.args.self.now.replies c.accept_all.new.replies c.in_ok-fault.fault)
    c.now-now.ensures.value c.in_ok-fault.ensures.accepts)
    c.in_ok-fault.ensures.same refl refl refl refl is
