use Rattle.stream_tree.proofs.BareLoop.{bare_ticked}
use Rattle.stream_tree.proofs.bare.run_bare.Goals as goal

pub returns-in-Tick-clause-runs : goal.returns-in-Tick-clause-runs
returns-in-Tick-clause-runs c =
    bare_ticked c.args.context.now.patterns.now c.args.context.now.start c.args.context.now.moment c.args.entry.now
    c.args.out.now c.args.streams.now c.in-Tick.is
