use Rattle.stream_tree.proofs.BareLaws.{bare_opened}
use Rattle.stream_tree.proofs.bare.is_bare.Goals as goal

pub returns : goal.returns
returns c = λ holds.
    bare_opened c.args.stream.now (c.are_none.ensures c.if-not-are_none.false)
    (c.are_none-else-not-are_none.ensures c.if-not-are_none-2.false) (c.keeps_nothing.ensures holds)
