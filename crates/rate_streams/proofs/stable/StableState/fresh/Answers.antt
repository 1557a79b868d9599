use Rattle.std.proofs.Common.{◌<◌, refl, sym, rules}
use Rattle.rate_streams.proofs.StableLaws.{fresh_represents}
use Rattle.rate_streams.proofs.stable.StableState.fresh.Goals as goal

pub returns-clause-represents : goal.returns-clause-represents
returns-clause-represents c h alone begins =
    let positive : 0 < c.args.params.secs = search rules in
    fresh_represents _ h refl positive refl (sym begins) c.fresh.ensures alone
