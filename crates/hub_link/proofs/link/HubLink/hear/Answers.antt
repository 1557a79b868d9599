use Rattle.std.proofs.Common.{sym, ◌∙◌}
use Rattle.std.proofs.lemmas.Result.{err_from_is_err_and}
use Rattle.msg_replies.specs.Arriving.{reported}
use Rattle.hub_link.proofs.LinkLaws.{hears_cut, hears_in_part, hears_nothing, is_opened, is_shut}
use Rattle.hub_link.proofs.link.HubLink.hear.Goals as goal

pub returns-then-not-is_open-clause-hears : goal.returns-then-not-is_open-clause-hears
returns-then-not-is_open-clause-hears g c =
    hears_nothing c.args.piece.now c.args.self.now c.args.core.now _ _
    (is_shut c.args.self.now (sym c.is_open.ensures ∙ c.if-not-is_open.true))

pub returns-in_err-read-clause-hears : goal.returns-in_err-read-clause-hears
returns-in_err-read-clause-hears g c =
    let p = err_from_is_err_and c.from_residual.result c.from_residual.ensures.1 in
    let opened = sym c.is_open.ensures ∙ c.if-not-is_open.false in
    rw p.1 (hears_in_part c.args.piece.now c.args.self.now c.args.core.now c.read.new.core
    (g.P.Patterns.report c.args.patterns.now) (g.P.Patterns.report c.read.new.patterns)
    (reported c.args.notices.now c.args.steps.now.forks) (reported c.read.new.notices c.read.new.steps.forks)
    (is_opened c.args.self.now opened) c.read.new.self p.0 _ c.in_err-read.ensures.frames)

pub returns-clause-hears : goal.returns-clause-hears
returns-clause-hears g c =
    let opened = sym c.is_open.ensures ∙ c.if-not-is_open.false in
    hears_cut c.args.piece.now c.args.self.now c.args.core.now c.read.new.core (g.P.Patterns.report c.args.patterns.now)
    (g.P.Patterns.report c.read.new.patterns)
    (reported c.args.notices.now c.args.steps.now.forks) (reported c.read.new.notices c.read.new.steps.forks)
    (is_opened c.args.self.now opened) c.read.new.self c.cut_off.new.self c.cut_off.result
    c.in_ok-read.ensures.frames c.in_ok-read.ensures.number c.in_ok-read.ensures.keeps c.cut_off.ensures.represents
