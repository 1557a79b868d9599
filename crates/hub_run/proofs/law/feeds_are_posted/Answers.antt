use Rattle.std.proofs.Common.{◌≡◌, ap}
use Rattle.ev_types.specs.Clock.{first_moment}
use Rattle.hub_run.specs.Runs.{config_at}
use Rattle.hub_run.proofs.PostLaws.{posted_from}
use Rattle.hub_run.proofs.law.feeds_are_posted.Goals as goal

pub returns : goal.returns
returns c setup limit most bytes secs turns some few whole run legal each ended =
    let listened = run.0 in
    let start : secs ≡ 0 = cc listened in
    posted_from (config_at setup secs) limit most bytes turns some few whole (ap first_moment start) run.1 legal each
    ended
