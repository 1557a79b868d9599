use Rattle.list_laws.proofs.PrefixLaws.{IsPrefix-starts_with}
use Rattle.list_laws.proofs.prefix.is_prefix.Goals as goal

pub returns-clause-same : goal.returns-clause-same
returns-clause-same g c apart =
    IsPrefix-starts_with _ apart c.args.front.now c.args.whole.now c.starts_with.result c.starts_with.ensures.value
