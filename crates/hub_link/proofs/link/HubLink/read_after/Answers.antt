use Rattle.std.proofs.lemmas.Result.{err_from_is_err_and}
use Rattle.msg_replies.specs.Arriving.{reported}
use Rattle.msg_replies.proofs.AnswerLaws.{on_ok}
use Rattle.hub_link.proofs.PartLaws.{keeps_then, parts_are, reads_in_part, reads_then}
use Rattle.hub_link.proofs.link.HubLink.read_after.Goals as goal

pub returns-in_err-read_joined-clause-frames : goal.returns-in_err-read_joined-clause-frames
returns-in_err-read_joined-clause-frames g c =
    let p = err_from_is_err_and c.from_residual.result c.from_residual.ensures.1 in
    let parts =
    parts_are c.min.result c.split_at.result.0.now c.split_at.result.1.now c.args.piece.now c.split_at.ensures.front
    c.split_at.ensures.back in
    rw p.1 (reads_in_part c.split_at.result.0.now c.split_at.result.1.now c.args.piece.now parts c.args.self.now
    c.read_joined.new.self.unsent c.args.core.now c.read_joined.new.core
    (g.P.Patterns.report c.args.patterns.now) (g.P.Patterns.report c.read_joined.new.patterns)
    (reported c.args.notices.now c.args.steps.now.forks)
    (reported c.read_joined.new.notices c.read_joined.new.steps.forks)
    _ p.0 c.in_err-read_joined.ensures.frames)

pub returns-then-is_empty-clause-frames : goal.returns-then-is_empty-clause-frames
returns-then-is_empty-clause-frames g c =
    let parts =
    parts_are c.min.result c.split_at.result.0.now c.split_at.result.1.now c.args.piece.now c.split_at.ensures.front
    c.split_at.ensures.back in
    reads_then c.split_at.result.0.now c.split_at.result.1.now c.args.piece.now parts c.args.self.now
    c.read_joined.new.self c.read_alone.new.self
    c.args.core.now c.read_joined.new.core c.read_alone.new.core
    (g.P.Patterns.report c.args.patterns.now) (g.P.Patterns.report c.read_joined.new.patterns)
    (g.P.Patterns.report c.read_alone.new.patterns)
    (reported c.args.notices.now c.args.steps.now.forks)
    (reported c.read_joined.new.notices c.read_joined.new.steps.forks)
    (reported c.read_alone.new.notices c.read_alone.new.steps.forks)
    tt c.read_alone.result c.in_ok-read_joined.ensures.frames c.in_ok-read_joined.ensures.keeps
    c.read_alone.ensures.frames

pub returns-then-is_empty-clause-keeps : goal.returns-then-is_empty-clause-keeps
returns-then-is_empty-clause-keeps g c =
    let parts =
    parts_are c.min.result c.split_at.result.0.now c.split_at.result.1.now c.args.piece.now c.split_at.ensures.front
    c.split_at.ensures.back in
    on_ok c.read_alone.result
    (keeps_then c.split_at.result.0.now c.split_at.result.1.now c.args.piece.now parts c.args.self.now
    c.read_joined.new.self c.read_alone.new.self c.in_ok-read_joined.ensures.keeps)
    c.read_alone.ensures.keeps

pub returns-else-is_empty-clause-frames : goal.returns-else-is_empty-clause-frames
returns-else-is_empty-clause-frames g c =
    let parts =
    parts_are c.min.result c.split_at.result.0.now c.split_at.result.1.now c.args.piece.now c.split_at.ensures.front
    c.split_at.ensures.back in
    reads_then c.split_at.result.0.now c.split_at.result.1.now c.args.piece.now parts c.args.self.now
    c.read_joined.new.self c.read_joined-else-is_empty.new.self
    c.args.core.now c.read_joined.new.core c.read_joined-else-is_empty.new.core
    (g.P.Patterns.report c.args.patterns.now) (g.P.Patterns.report c.read_joined.new.patterns)
    (g.P.Patterns.report c.read_joined-else-is_empty.new.patterns)
    (reported c.args.notices.now c.args.steps.now.forks)
    (reported c.read_joined.new.notices c.read_joined.new.steps.forks)
    (reported c.read_joined-else-is_empty.new.notices c.read_joined-else-is_empty.new.steps.forks)
    tt c.read_joined-else-is_empty.result c.in_ok-read_joined.ensures.frames c.in_ok-read_joined.ensures.keeps
    c.read_joined-else-is_empty.ensures.frames

pub returns-else-is_empty-clause-keeps : goal.returns-else-is_empty-clause-keeps
returns-else-is_empty-clause-keeps g c =
    let parts =
    parts_are c.min.result c.split_at.result.0.now c.split_at.result.1.now c.args.piece.now c.split_at.ensures.front
    c.split_at.ensures.back in
    on_ok c.read_joined-else-is_empty.result
    (keeps_then c.split_at.result.0.now c.split_at.result.1.now c.args.piece.now parts c.args.self.now
    c.read_joined.new.self c.read_joined-else-is_empty.new.self c.in_ok-read_joined.ensures.keeps)
    c.read_joined-else-is_empty.ensures.keeps
