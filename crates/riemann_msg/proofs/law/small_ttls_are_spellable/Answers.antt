use Rattle.riemann_msg.proofs.TtlBits.{small_spells}
use Rattle.riemann_msg.proofs.law.small_ttls_are_spellable.Goals as goal

pub returns : goal.returns
returns c = small_spells
