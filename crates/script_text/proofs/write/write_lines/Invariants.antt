use Rattle.std.proofs.Common.{◌≡◌, take}
use Rattle.std.specs.List.{flat_map}
use Rattle.ports.specs.Writing.{Got}
use Rattle.script_text.specs.LinkLines.{line_after}
use Rattle.script_text.proofs.write.write_lines.Given as goal

abbrev pub invariant-loop-number : goal.invariant-loop-number
invariant-loop-number g l = record {
  got : Got (g.O.Sink.report l.fn.out).text (flat_map (line_after l.links.log) (take l.number-index l.numbers))
      (g.O.Sink.report l.out).text;
  faults : (g.O.Sink.report l.out).faults ≡ (g.O.Sink.report l.fn.out).faults;
}
