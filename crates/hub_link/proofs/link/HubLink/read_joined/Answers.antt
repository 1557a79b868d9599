use Rattle.std.proofs.Common.{◌++◌}
use Rattle.std.proofs.lemmas.Result.{err_from_is_err_and}
use Rattle.hub_link.proofs.HearLaws.{answers_nothing}
use Rattle.hub_link.proofs.link.HubLink.read_joined.Goals as goal

pub returns-in_err-push-clause-frames : goal.returns-in_err-push-clause-frames
returns-in_err-push-clause-frames g c =
    let p = err_from_is_err_and c.from_residual.result c.from_residual.ensures.1 in
    rw p.1 (answers_nothing (c.args.self.now.input ++ c.args.piece.now) c.args.self.now.unsent c.args.core.now _ _ p.0)
