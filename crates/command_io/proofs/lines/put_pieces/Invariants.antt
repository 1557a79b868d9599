use Rattle.std.proofs.Common.{◌≤◌, take}
use Rattle.ports.specs.Writing.{Got}
use Rattle.command_io.specs.Lines.{joined}
use Rattle.command_io.proofs.lines.put_pieces.Given as goal

abbrev pub invariant-loop-piece : goal.invariant-loop-piece
invariant-loop-piece g l =
    Got (g.E.Sink.report l.initial.err).text (joined (take l.piece-index l.pieces)) (g.E.Sink.report l.err).text
    × ((g.E.Sink.report l.initial.err).faults ≤ (g.E.Sink.report l.err).faults)
