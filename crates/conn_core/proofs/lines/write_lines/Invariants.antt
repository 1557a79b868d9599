use Rattle.std.proofs.Common.{◌≡◌, take}
use Rattle.notice_sink.specs.Lines.{lines_of}
use Rattle.ports.specs.Writing.{Got}
use Rattle.conn_core.specs.Turning.{CountedPuts}
use Rattle.conn_core.proofs.lines.write_lines.Given as goal

abbrev pub invariant-loop-notice : goal.invariant-loop-notice
invariant-loop-notice g l = record {
  got : Got (g.O.Sink.report l.fn.sink).text (lines_of (take l.notice-index l.notices)) (g.O.Sink.report l.sink).text;
  puts : CountedPuts (g.O.Sink.report l.fn.sink).puts l.notice-index (g.O.Sink.report l.sink).puts;
  faults : (g.O.Sink.report l.sink).faults ≡ (g.O.Sink.report l.fn.sink).faults;
}
