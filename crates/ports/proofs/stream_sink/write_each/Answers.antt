use Rattle.std.proofs.Common.{rules}
use Rattle.ports.proofs.StreamLemmas.{text_more, took_more}
use Rattle.ports.proofs.stream_sink.write_each.Goals as goal

pub loop-preserved : goal.loop-preserved
loop-preserved g c = record {
  within = search rules;
  added =
      text_more c.args.bytes.now c.loop.at c.in_ok-at.field-0 c.args.text.now c.loop.text c.write_some.new.text
      c.loop.invariant.added c.in_ok-at.ensures.text;
  took =
      took_more c.args.bytes.now c.loop.at c.in_ok-at.field-0 (g.W.Write.contents c.args.writer.now)
      (g.W.Write.contents c.loop.writer) (g.W.Write.contents c.write_some.new.writer) c.loop.invariant.took
      c.in_ok-at.ensures.took;
}
