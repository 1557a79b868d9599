use Rattle.std.proofs.Common.{◌≡◌, ◌+◌, ap, refl, sym, arith, rules}
use mathlib.Core.Bool.{true≢false}
use Rattle.pred_eval.specs.Tree.{tree_of}
use Rattle.stream_plan.specs.Tree.{kind_tree}
use Rattle.stream_tree.specs.declared.forest.Forest.{out-Forest}
use Rattle.stream_tree.specs.declared.forest.Node.{out-Node}
use Rattle.stream_tree.specs.declared.unseen.Unseen.TheVariants.{Write, Needed}
use Rattle.stream_tree.specs.Forest.{nodes_of, node_below}
use Rattle.stream_tree.proofs.NoPatternLaws.{none_at, none_in_rule, none_in_children, none_in_otherwise}
use Rattle.stream_tree.proofs.UnseenLaws.{index_answers, sdo_answers, where_answers, else_answers, others_answer}
use Rattle.stream_tree.proofs.UnseenLaws.{unseen_more, unseen_needed, unseen_all}
use Rattle.stream_tree.proofs.unseen.+unseen.Goals as goal

pub forest_unseen-loop-i-preserved : goal.forest_unseen-loop-i-preserved
forest_unseen-loop-i-preserved g t c =
    unseen_more c.args.patterns.now c.args.streams.now (nodes_of c.args.forest.now)
    (g.E.EventFields.event c.args.event.now) c.loop-i.i c.loop-i.unseen c.in_ok-own.own c.and-unseen.result
    c.index-streams-i.result c.index.result.now c.index.result.now
    (omega arith)
    (omega (arith, c.min-count.ensures, c.len.ensures, c.loop-i-test.true, (out-Forest c.args.forest.now).nodes.ok.0))
    c.index-streams-i.is c.index.ensures c.loop-i.invariant c.in_ok-own.ensures.answer c.and-unseen.ensures

pub forest_unseen-returns-then-eq-clause-answer : goal.forest_unseen-returns-then-eq-clause-answer
forest_unseen-returns-then-eq-clause-answer g t c =
    let event = g.E.EventFields.event c.args.event.now in
    let nodes = nodes_of c.args.forest.now in
    let needed : c.and-unseen.result ≡ Needed = search rules in
    unseen_needed c.args.patterns.now c.args.streams.now nodes event (c.loop-i.i + 1) c.and-unseen.result
    (unseen_more c.args.patterns.now c.args.streams.now nodes event c.loop-i.i c.loop-i.unseen c.in_ok-own.own
    c.and-unseen.result c.index-streams-i.result c.index.result.now c.index.result.now
    (omega arith)
    (omega (arith, c.min-count.ensures, c.len.ensures, c.loop-i-test.true, (out-Forest c.args.forest.now).nodes.ok.0))
    c.index-streams-i.is c.index.ensures c.loop-i.invariant c.in_ok-own.ensures.answer c.and-unseen.ensures)
    needed

pub forest_unseen-returns-clause-answer : goal.forest_unseen-returns-clause-answer
forest_unseen-returns-clause-answer g t c =
    unseen_all c.args.patterns.now c.args.streams.now (nodes_of c.args.forest.now)
    (g.E.EventFields.event c.args.event.now) c.loop-i.i c.min-count.result c.loop-i.unseen c.bare_unseen.result
    c.and.result c.after.result.now
    (omega (arith, c.min-count.ensures, c.len.ensures, c.loop-i-test.false, (out-Forest c.args.forest.now).nodes.ok.0))
    (omega arith) c.after.ensures c.loop-i.invariant c.bare_unseen.ensures c.and.ensures

pub node_unseen-returns-in-Index-clause-answer : goal.node_unseen-returns-in-Index-clause-answer
node_unseen-returns-in-Index-clause-answer g t c =
    index_answers c.args.patterns.now c.args.stream.now (out-Node c.args.node.now).state (node_below c.args.node.now)
    (g.E.EventFields.event c.args.event.now) Write (ap kind_tree c.in-Index.is) refl

pub node_unseen-returns-in_ok-unseen-in-Sdo-clause-answer : goal.node_unseen-returns-in_ok-unseen-in-Sdo-clause-answer
node_unseen-returns-in_ok-unseen-in-Sdo-clause-answer g t c =
    sdo_answers c.args.patterns.now c.args.stream.now (out-Node c.args.node.now).state (node_below c.args.node.now)
    (g.E.EventFields.event c.args.event.now) c.in_ok-unseen-in-Sdo.unseen c.deref.result.now
    (ap kind_tree c.in-Sdo.is) c.deref.ensures.value c.in_ok-unseen-in-Sdo.ensures.answer

pub node_unseen-returns-in_ok-unseen-in-Where-clause-answer : goal.node_unseen-returns-in_ok-unseen-in-Where-clause-answer
node_unseen-returns-in_ok-unseen-in-Where-clause-answer g t c =
    where_answers c.args.patterns.now c.args.stream.now (out-Node c.args.node.now).state (node_below c.args.node.now)
    (g.E.EventFields.event c.args.event.now) c.in_ok-unseen-in-Where.unseen (tree_of c.in-Where.rule)
    c.deref-then-branch.result.now c.in_ok-rule_holds_of-in-Where.field-0 (ap kind_tree c.in-Where.is)
    c.deref-then-branch.ensures.value
    (λ texts from numbers. c.in_ok-rule_holds_of-in-Where.ensures.truth
    (c.own_patterns-own.ensures texts (tree_of c.in-Where.rule) from numbers))
    c.if-branch.true c.in_ok-unseen-in-Where.ensures.answer

pub node_unseen-returns-in_ok-unseen-in-Where-2-clause-answer : goal.node_unseen-returns-in_ok-unseen-in-Where-2-clause-answer
node_unseen-returns-in_ok-unseen-in-Where-2-clause-answer g t c =
    else_answers c.args.patterns.now c.args.stream.now (out-Node c.args.node.now).state (node_below c.args.node.now)
    (g.E.EventFields.event c.args.event.now) c.in_ok-unseen-in-Where-2.unseen (tree_of c.in-Where.rule)
    c.deref-else-branch.result.now c.in_ok-rule_holds_of-in-Where.field-0 (ap kind_tree c.in-Where.is)
    c.deref-else-branch.ensures.value
    (λ texts from numbers. c.in_ok-rule_holds_of-in-Where.ensures.truth
    (c.own_patterns-own.ensures texts (tree_of c.in-Where.rule) from numbers))
    c.if-branch.false c.in_ok-unseen-in-Where-2.ensures.answer

pub node_unseen-returns-in_default-clause-answer : goal.node_unseen-returns-in_default-clause-answer
node_unseen-returns-in_default-clause-answer g t c =
    others_answer c.args.patterns.now c.args.stream.now (out-Node c.args.node.now).state (node_below c.args.node.now)
    (g.E.EventFields.event c.args.event.now) Needed (search rules) refl

pub forest_unseen-returns-in_err-own-clause-memory : goal.forest_unseen-returns-in_err-own-clause-memory
forest_unseen-returns-in_err-own-clause-memory g t c = λ none.
    absurd (true≢false (sym (c.in_err-own.ensures.memory
    (none_at c.args.streams.now c.loop-i.i c.index-streams-i.result c.index-streams-i.result
    (omega (arith, c.min-count.ensures, c.len.ensures, c.loop-i-test.true)) c.index-streams-i.is none))))

pub node_unseen-returns-in_err-unseen-in-Sdo-clause-memory : goal.node_unseen-returns-in_err-unseen-in-Sdo-clause-memory
node_unseen-returns-in_err-unseen-in-Sdo-clause-memory g t c = λ none.
    absurd (true≢false (sym (c.in_err-unseen-in-Sdo.ensures.memory
    (none_in_children c.args.stream.now none c.deref.result.now c.deref.ensures.value))))

pub node_unseen-returns-in_err-rule_holds_of-in-Where-clause-memory :
    goal.node_unseen-returns-in_err-rule_holds_of-in-Where-clause-memory
node_unseen-returns-in_err-rule_holds_of-in-Where-clause-memory g t c = λ none.
    absurd (true≢false (sym (c.in_err-rule_holds_of-in-Where.ensures.memory
    (none_in_rule c.args.stream.now none (tree_of c.in-Where.rule) (ap kind_tree c.in-Where.is)))))

pub node_unseen-returns-in_err-unseen-in-Where-clause-memory :
    goal.node_unseen-returns-in_err-unseen-in-Where-clause-memory
node_unseen-returns-in_err-unseen-in-Where-clause-memory g t c = λ none.
    absurd (true≢false (sym (c.in_err-unseen-in-Where.ensures.memory
    (none_in_children c.args.stream.now none c.deref-then-branch.result.now c.deref-then-branch.ensures.value))))

pub node_unseen-returns-in_err-unseen-in-Where-2-clause-memory :
    goal.node_unseen-returns-in_err-unseen-in-Where-2-clause-memory
node_unseen-returns-in_err-unseen-in-Where-2-clause-memory g t c = λ none.
    absurd (true≢false (sym (c.in_err-unseen-in-Where-2.ensures.memory
    (none_in_otherwise c.args.stream.now none c.deref-else-branch.result.now c.deref-else-branch.ensures.value))))
