use Rattle.std.proofs.Common.{Option, subst}
use Rattle.riemann_client.specs.Client.{stream_of}
use Rattle.riemann_client.specs.Exchange.{heard, passed}
use Rattle.riemann_client.specs.Turning.{Occurs}
use Rattle.riemann_client.specs.declared.progress.Progress.{Progress}
use Rattle.riemann_client.proofs.HearLaws.{hears_fault, passes}
use Rattle.riemann_client.proofs.client.Client.hear.Goals as goal

pub returns-in-Ok-Some-clause-hears : goal.returns-in-Ok-Some-clause-hears
returns-in-Ok-Some-clause-hears c other before is =
    hears_fault c.occur.new.self (stream_of c.args.self.now) before c.args.turn c.args.piece.now c.in-Ok-Some.fault
    (subst
    (λ (f : Option Progress).
    Occurs c.occur.new.self (passed c.args.turn.secs before) (heard c.args.turn c.args.piece.now before) f)
    c.in-Ok-Some.field-0-is
    (c.in-Ok-Some.ensures.occurs (passed c.args.turn.secs before)
    (passes c.args.self.now before c.args.turn.secs c.pass.new.self c.pass.ensures is)))
