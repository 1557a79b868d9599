use Rattle.hub_meaning.proofs.PrefixLaws.{prefixes_are_sent_lem}
use Rattle.hub_meaning.proofs.law.prefixes_are_sent.Goals as goal

pub returns : goal.returns
returns c = prefixes_are_sent_lem
