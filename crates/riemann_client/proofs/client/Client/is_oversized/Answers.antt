use Rattle.std.proofs.Common.{sym}
use Rattle.framing.proofs.FrameLaws.{oversized_has_none}
use Rattle.riemann_client.proofs.HearLaws.{not_oversized_test, oversized_test}
use Rattle.riemann_client.proofs.client.Client.is_oversized.Goals as goal

pub returns-in-TooLong : goal.returns-in-TooLong
returns-in-TooLong c = sym (oversized_test c.args.self.now.input.bytes c.in-TooLong.ensures.0)

pub returns-in-NotYet : goal.returns-in-NotYet
returns-in-NotYet c = sym (not_oversized_test c.args.self.now.input.bytes c.in-NotYet.ensures.1)

pub returns-in-Whole : goal.returns-in-Whole
returns-in-Whole c =
    sym (not_oversized_test c.args.self.now.input.bytes
    (λ over. oversized_has_none c.args.self.now.input.bytes over c.in-Whole.ensures.0))
