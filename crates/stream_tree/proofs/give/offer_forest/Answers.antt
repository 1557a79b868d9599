use Rattle.std.proofs.Common.{◌-◌, length, sym, ◌∙◌, arith}
use Rattle.ev_types.specs.declared.item.Item.TheVariants.{One}
use Rattle.stream_meaning.specs.declared.entry.Entry.TheVariants.{Item as In}
use Rattle.stream_tree.specs.declared.forest.Forest.{out-Forest}
use Rattle.stream_tree.specs.Forest.{nodes_of}
use Rattle.stream_tree.proofs.GiveLaws.{index_is, last_written, none_before}
use Rattle.stream_tree.proofs.give.offer_forest.Goals as goal

pub returns-clause-runs : goal.returns-clause-runs
returns-clause-runs g c =
    last_written c.args.context.now.patterns.now c.args.context.now.start c.args.context.now.moment c.args.event.now
    c.args.out.now c.lend_first.new.out c.args.steps.now c.lend_first.new.steps c.args.streams.now
    (nodes_of c.args.forest.now) (nodes_of c.lend_first.new.forest) (length c.args.streams.now - 1)
    c.index-streams-count.result
    (omega (arith, c.if-count-eq0.false))
    (omega (
      arith,
      c.if-count-eq0.false,
      c.len.ensures,
      c.if-len-count.false,
      c.lend_first.ensures.many,
      (out-Forest c.args.forest.now).nodes.ok.0,
    ))
    (omega (arith, c.if-count-eq0.false))
    c.index-streams-count.is (index_is _ (sym c.is_index.ensures ∙ c.if-not-is_index.false))
    c.in_ok-lend_first.ensures.runs

pub returns-then-count-eq1-clause-runs : goal.returns-then-count-eq1-clause-runs
returns-then-count-eq1-clause-runs g c =
    last_written c.args.context.now.patterns.now c.args.context.now.start c.args.context.now.moment c.args.event.now
    c.args.out.now c.args.out.now c.args.steps.now c.args.steps.now c.args.streams.now (nodes_of c.args.forest.now)
    (nodes_of c.args.forest.now) (length c.args.streams.now - 1) c.index-streams-count.result
    (omega (arith, c.if-count-eq0.false))
    (omega (
      arith,
      c.if-count-eq0.false,
      c.len.ensures,
      c.if-len-count.false,
      (out-Forest c.args.forest.now).nodes.ok.0,
    ))
    (omega (arith, c.if-count-eq0.false))
    c.index-streams-count.is (index_is _ (sym c.is_index.ensures ∙ c.if-not-is_index.false))
    (none_before c.args.context.now.patterns.now c.args.context.now.start c.args.context.now.moment
    (In (One c.args.event.now)) c.args.out.now c.args.steps.now c.args.streams.now (nodes_of c.args.forest.now)
    (length c.args.streams.now - 1) (omega (arith, c.if-count-eq1.true)))
