use Rattle.std.proofs.Common.{sym, ◌∙◌}
use Rattle.stream_plan.specs.Tree.{list_trees}
use Rattle.stream_tree.proofs.UnseenLaws.{bare_are_needed, one_index_writes}
use Rattle.stream_tree.proofs.unseen.bare_unseen.Goals as goal

pub returns-then-is_alone : goal.returns-then-is_alone
returns-then-is_alone c = λ bare event.
    sym (one_index_writes (list_trees c.args.streams.now) event (sym c.is_alone.ensures ∙ c.if-is_alone.true))

pub returns-else-is_alone : goal.returns-else-is_alone
returns-else-is_alone c = λ bare event.
    bare_are_needed c.args.streams.now c.is_empty.result c.is_alone.result event c.is_empty.ensures c.if-is_empty.false
    c.is_alone.ensures c.if-is_alone.false bare
