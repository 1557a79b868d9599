use Rattle.list_laws.specs.Prefix.{IsPrefix}
use Rattle.stream_tree.proofs.BareLoop.{BareRan}
use Rattle.stream_tree.proofs.bare.act_bare.Given as goal

-- the streams up to the index have got the entry
abbrev pub invariant-loop-stream : goal.invariant-loop-stream
invariant-loop-stream l = record {
  ran : BareRan l.context.patterns.now l.context.start l.context.moment l.entry l.fn.out l.streams l.stream-index l.out;
  prefix : IsPrefix l.fn.out l.out;
}
