use Rattle.std.proofs.Common.{arith, refl, sym, ap, ◌∙◌, List, [], ◌∷◌, length, length-append}
use Rattle.stream_plan.specs.Tree.{list_trees}
use Rattle.stream_tree.specs.declared.forest.Forest.{out-Forest}
use Rattle.stream_tree.specs.declared.forest.Forest.TheViews.{roll-Forest, out-roll-Forest, out-roll-Node}
use Rattle.stream_tree.specs.declared.forest.Node.{Node}
use Rattle.stream_tree.specs.Fresh.{ForestIsFresh}
use Rattle.stream_tree.specs.Forest.{nodes_of, below_of, node_below}
use Rattle.stream_tree.proofs.FreshLaws.{node_holds, node_following, unforked_holds, unforked_following, node_fresh}
use Rattle.stream_tree.proofs.FreshLaws.{none_fresh, one_more_fresh, all_fresh, bare_fresh}
use Rattle.stream_tree.proofs.forest.+fresh.Goals as goal

pub fresh_node-returns-then-is_by : goal.fresh_node-returns-then-is_by
fresh_node-returns-then-is_by t c =
    node_fresh c.args.stream.now c.unforked.result c.in_ok-state.state (node_below c.unforked.result) c.args.start
    c.args.next.now c.unforked.new.next c.unforked.ensures.state refl
    (unforked_holds c.args.stream.now c.in_ok-state.state (node_below c.unforked.result) c.args.start c.args.next.now
    (sym c.is_by.ensures ∙ c.if-is_by.true)
    c.in_ok-state.ensures.represents c.in_ok-state.ensures.forks c.unforked.ensures.table c.unforked.ensures.forks
    c.unforked.ensures.children c.unforked.ensures.otherwise)
    (unforked_following c.args.stream.now c.args.next.now c.fresh.new.next c.unforked.new.next
    c.in_ok-state.ensures.next c.unforked.ensures.next)

pub fresh_node-returns : goal.fresh_node-returns
fresh_node-returns t c = record {
  represents = λ before after in_fork h alone begins ranges nested at small.
      rw out-roll-Node
      (node_holds c.args.stream.now c.deref.result.now c.deref-2.result.now c.in_ok-state.state
      (below_of c.in_ok-children.children c.in_ok-otherwise.otherwise c.fresh-2.result) c.args.start
      c.args.next.now c.fresh.new.next c.fresh_branch.new.next c.fresh_branch-2.new.next c.deref.ensures.value
      c.deref-2.ensures.value (sym c.is_by.ensures ∙ c.if-is_by.false)
      c.in_ok-state.ensures.represents c.in_ok-state.ensures.next c.in_ok-children.ensures c.in_ok-otherwise.ensures
      c.fresh-2.ensures.table c.fresh-2.ensures.forks before after in_fork h alone begins ranges nested at small);
  following =
      node_following c.args.stream.now c.deref.result.now c.deref-2.result.now _ _ c.args.start c.args.next.now
      c.fresh.new.next c.fresh_branch.new.next c.fresh_branch-2.new.next
      c.deref.ensures.value c.deref-2.ensures.value c.in_ok-state.ensures.next c.in_ok-children.ensures
      c.in_ok-otherwise.ensures;
}

pub fresh_branch-returns-then-are_bare : goal.fresh_branch-returns-then-are_bare
fresh_branch-returns-then-are_bare t c =
    bare_fresh (list_trees c.args.streams.now) c.args.start c.args.next.now (nodes_of c.no_nodes.result)
    c.no_nodes.ensures (c.are_bare.ensures c.if-are_bare.true)

pub fresh_forest-loop-stream-init : goal.fresh_forest-loop-stream-init
fresh_forest-loop-stream-init t c = record {
  many = ap (λ (l : List Node). length l) c.in_ok-nodes.ensures.items;
  fresh = none_fresh c.args.start c.args.next.now c.in_ok-nodes.nodes.items c.in_ok-nodes.ensures.items;
}

pub fresh_forest-loop-stream-preserved : goal.fresh_forest-loop-stream-preserved
fresh_forest-loop-stream-preserved t c = record {
  many =
      omega (
        arith,
        ap (λ (l : List Node). length l) c.in_ok-push.ensures.items,
        length-append c.loop-stream.nodes.items (c.in_ok-fresh_node.field-0 ∷ []),
        c.loop-stream.invariant.many,
      );
  fresh =
      one_more_fresh c.args.streams.now c.loop-stream.stream-index c.stream-item.result c.loop-stream.nodes.items
      c.push.new.self.items c.in_ok-fresh_node.field-0
      c.args.start c.args.next.now c.loop-stream.next c.fresh_node.new.next (omega arith) c.stream-item.is
      c.in_ok-push.ensures.items c.loop-stream.invariant.many c.loop-stream.invariant.fresh c.in_ok-fresh_node.ensures;
}

pub fresh_forest-returns : goal.fresh_forest-returns
fresh_forest-returns t c =
    let made : ForestIsFresh (list_trees c.args.streams.now) c.args.start c.args.next.now c.loop-stream.next
    (out-Forest (roll-Forest (record { nodes = c.loop-stream.nodes }))).nodes.items =
    rw out-roll-Forest (all_fresh c.args.streams.now c.loop-stream.stream-index c.loop-stream.nodes.items c.args.start
    c.args.next.now c.loop-stream.next c.loop-stream-test.false c.loop-stream.invariant.fresh) in
    made
