use Rattle.std.proofs.Common.{arith, ap, sym, ◌∙◌}
use Rattle.stream_meaning.specs.Deadlines.{earlier}
use Rattle.stream_tree.specs.declared.forest.Forest.{out-Forest}
use Rattle.stream_tree.specs.declared.forest.Node.{out-Node}
use Rattle.stream_tree.specs.Forest.{nodes_of, node_below}
use Rattle.stream_tree.proofs.NextLaws.{node_plain, node_forked, due_more, due_all}
use Rattle.stream_tree.proofs.next.+next.Goals as goal

pub forest_due-loop-i-preserved : goal.forest_due-loop-i-preserved
forest_due-loop-i-preserved t c =
    due_more c.args.streams.now (nodes_of c.args.forest.now) c.loop-i.i c.loop-i.due c.node_due.result
    c.earlier_of-due.result c.index-streams-i.result c.index.result.now c.index.result.now
    (omega arith)
    (omega (arith, c.min-count.ensures, c.len.ensures, c.loop-i-test.true, (out-Forest c.args.forest.now).nodes.ok.0))
    c.index-streams-i.is c.index.ensures c.loop-i.invariant c.node_due.ensures c.earlier_of-due.ensures

pub forest_due-returns : goal.forest_due-returns
forest_due-returns t c =
    due_all c.args.streams.now (nodes_of c.args.forest.now) c.loop-i.i c.loop-i.due
    (omega (arith, c.min-count.ensures, c.len.ensures, c.loop-i-test.false, (out-Forest c.args.forest.now).nodes.ok.0))
    c.loop-i.invariant

pub node_due-returns-then-is_by : goal.node_due-returns-then-is_by
node_due-returns-then-is_by t c = λ texts h represents small.
    c.earlier_of.ensures
    ∙ node_forked c.args.stream.now (out-Node c.args.node.now).state (node_below c.args.node.now) c.due-own.result
    c.next_due.result (sym c.is_by.ensures ∙ c.if-is_by.true)
    c.due-own.ensures c.next_due.ensures.kept texts h represents
    small

pub node_due-returns : goal.node_due-returns
node_due-returns t c = λ texts h represents small.
    c.earlier_of-3.ensures ∙ ap (earlier c.due-own.result) c.earlier_of-2.ensures
    ∙ node_plain c.args.stream.now c.deref.result.now c.deref-2.result.now (out-Node c.args.node.now).state
    (node_below c.args.node.now) c.due-own.result c.forest_due-children.result c.forest_due-otherwise.result
    (sym c.is_by.ensures ∙ c.if-is_by.false) c.deref.ensures.value c.deref-2.ensures.value c.due-own.ensures
    c.forest_due-children.ensures c.forest_due-otherwise.ensures texts h represents small
