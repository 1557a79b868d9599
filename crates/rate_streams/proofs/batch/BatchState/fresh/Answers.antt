use Rattle.std.proofs.Common.{◌<◌, refl, sym, ◌∙◌, rules}
use Rattle.rate_streams.proofs.BatchLaws.{fresh_represents}
use Rattle.rate_streams.proofs.batch.BatchState.fresh.Goals as goal

pub returns-clause-represents : goal.returns-clause-represents
returns-clause-represents c h alone begins =
    let positive : 0 < c.args.params.count = search rules in
    fresh_represents _ h refl positive (c.new.ensures.start ∙ sym begins) c.fresh.ensures alone
