use Rattle.std.proofs.Common.{sym, ◌∙◌, arith}
use Rattle.stream_tree.proofs.UnseenLaws.{needed_at}
use Rattle.stream_tree.proofs.unseen.may_be_unseen.Goals as goal

pub returns-then-not-is_looking : goal.returns-then-not-is_looking
returns-then-not-is_looking c = λ is event.
    needed_at c.args.streams.now c.loop-stream.stream-index c.stream-item.result c.stream-item.result event
    (omega arith) c.stream-item.is (sym c.is_looking.ensures ∙ c.if-not-is_looking.true)
