use Rattle.std.proofs.Common.{refl}
use Rattle.riemann_commands.proofs.CarryLaws.{keeps_promises, refuses_usage, within_limits}
use Rattle.riemann_commands.proofs.server.riemann.Goals as goal

pub carry_out-requires : goal.carry_out-requires
carry_out-requires g c = within_limits _ _ c.in-Some.ensures

pub returns-in-Some : goal.returns-in-Some
returns-in-Some g c = keeps_promises _ _ _ _ _ _ _ _ c.in-Some.ensures (c.carry_out.ensures _ c.in-Some.ensures)

pub returns-in-None : goal.returns-in-None
returns-in-None g c = refuses_usage _ _ _ _ _ _ c.in-None.ensures refl refl refl refl refl refl c.put_line.ensures
