use Rattle.std.proofs.Common.{sym}
use Rattle.sexp_config.proofs.SourceLaws.{nth_child, nth_otherwise, nth_neither}
use Rattle.sexp_config.proofs.finish.follow.Goals as goal

pub returns-then-number-children : goal.returns-then-number-children
returns-then-number-children c =
    sym (nth_child c.args.children.now c.args.otherwise.now c.args.number _ c.if-number-children.true
    c.index-children-number.is)

pub returns-then-later-otherwise : goal.returns-then-later-otherwise
returns-then-later-otherwise c =
    sym (nth_otherwise c.args.children.now c.args.otherwise.now c.args.number _ c.if-number-children.false
    c.if-later-otherwise.true c.index-otherwise-later.is)

pub returns : goal.returns
returns c =
    sym (nth_neither c.args.children.now c.args.otherwise.now c.args.number c.if-number-children.false
    c.if-later-otherwise.false)
