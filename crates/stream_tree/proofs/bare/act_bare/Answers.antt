use Rattle.std.proofs.Common.{arith}
use Rattle.pred_eval.proofs.BuildLaws.{on_error}
use Rattle.stream_tree.proofs.BareLoop.{bare_begins, bare_says_more, bare_stops, bare_ends}
use Rattle.stream_tree.proofs.PerformLaws.{extends_none, extends_then}
use Rattle.stream_tree.proofs.bare.act_bare.Goals as goal

pub loop-stream-init : goal.loop-stream-init
loop-stream-init c = record {
  ran =
      bare_begins c.args.context.now.patterns.now c.args.context.now.start c.args.context.now.moment c.args.entry.now
      c.args.out.now c.args.streams.now;
  prefix = extends_none c.args.out.now;
}

pub loop-stream-preserved : goal.loop-stream-preserved
loop-stream-preserved c = record {
  ran =
      bare_says_more c.args.context.now.patterns.now c.args.context.now.start c.args.context.now.moment c.args.entry.now
      c.args.out.now c.args.streams.now c.loop-stream.stream-index c.loop-stream.out c.act.new.out c.stream-item.result
      (omega arith) c.stream-item.is c.loop-stream.invariant.ran
      (λ texts h from represents comes small. (c.in_ok-act.ensures.acts texts h from represents comes small).said);
  prefix =
      extends_then c.args.out.now c.loop-stream.out c.act.new.out c.loop-stream.invariant.prefix c.act.ensures.prefix;
}

pub returns-in_err-act-clause-stops : goal.returns-in_err-act-clause-stops
returns-in_err-act-clause-stops c =
    on_error c.from_residual.result
    (bare_stops c.args.context.now.patterns.now c.args.context.now.start c.args.context.now.moment c.args.entry.now
    c.args.out.now c.args.streams.now c.loop-stream.stream-index c.loop-stream.out c.act.new.out c.stream-item.result
    (omega arith) c.stream-item.is c.loop-stream.invariant.ran c.in_err-act.ensures.part)

pub returns-clause-runs : goal.returns-clause-runs
returns-clause-runs c =
    bare_ends c.args.context.now.patterns.now c.args.context.now.start c.args.context.now.moment c.args.entry.now
    c.args.out.now c.args.streams.now c.loop-stream.stream-index c.loop-stream.out c.loop-stream-test.false
    c.loop-stream.invariant.ran
