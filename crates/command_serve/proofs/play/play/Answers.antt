use Rattle.std.proofs.lemmas.Result.{err_from_is_err_and}
use Rattle.command_serve.proofs.PlayLaws.{is_played, not_begun}
use Rattle.command_serve.proofs.play.play.Goals as goal

pub returns-in_err-links-clause-cut_off : goal.returns-in_err-links-clause-cut_off
returns-in_err-links-clause-cut_off g c =
    let p = err_from_is_err_and c.from_residual.result c.from_residual.ensures.1 in
    rw p.1 (not_begun c.args.setup c.args.count c.args.start _ _)

pub returns-clause-played : goal.returns-clause-played
returns-clause-played g c =
    is_played c.args.setup c.args.count c.args.start _ _ _ _ c.run.new.sink.puts c.replies.result c.live.result
    c.in_ok-hub.hub c.core.result.now
    c.in_ok-links.links c.run.new.links c.in_ok-links.ensures.log c.in_ok-links.ensures.script c.in_ok-hub.ensures.runs
    c.replies.ensures c.core.ensures c.live.ensures
