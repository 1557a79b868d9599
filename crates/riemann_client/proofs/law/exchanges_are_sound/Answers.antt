use Rattle.riemann_client.proofs.RunLaws.{last_lem, turns_lem}
use Rattle.riemann_client.proofs.law.exchanges_are_sound.Goals as goal

pub returns-clause-turns : goal.returns-clause-turns
returns-clause-turns c = turns_lem

pub returns-clause-last : goal.returns-clause-last
returns-clause-last c = last_lem
