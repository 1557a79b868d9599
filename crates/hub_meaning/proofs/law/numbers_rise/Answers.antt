use Rattle.hub_meaning.proofs.PrefixLaws.{numbers_rise_lem}
use Rattle.hub_meaning.proofs.law.numbers_rise.Goals as goal

pub returns : goal.returns
returns c = numbers_rise_lem
