use Rattle.std.proofs.Common.{refl}
use Rattle.framing.proofs.FrameLaws.{oversized_has_none}
use Rattle.hub_link.proofs.frames.answer_first.Goals as goal

pub returns-in-NotYet : goal.returns-in-NotYet
returns-in-NotYet g c =
    (c.in-NotYet.ensures.0, record { left_is = refl; core_is = refl; patterns_are = refl; reported_is = refl })

pub returns-in-TooLong : goal.returns-in-TooLong
returns-in-TooLong g c = (
  λ has. oversized_has_none _ c.in-TooLong.ensures.0 has,
  record { left_is = refl; core_is = refl; patterns_are = refl; reported_is = refl },
)
