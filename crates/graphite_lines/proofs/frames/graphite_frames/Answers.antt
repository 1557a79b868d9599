use Rattle.graphite_lines.proofs.Texts.{none_taken, one_taken}
use Rattle.graphite_lines.proofs.frames.graphite_frames.Goals as goal

pub lines-init : goal.lines-init
lines-init c = none_taken c.args.host_part c.args.text.now c.args.out.now c.args.bad.now

pub lines-preserved : goal.lines-preserved
lines-preserved c =
    one_taken c.args.host_part c.args.text.now c.args.out.now c.lines.out c.take_line.new.out c.args.bad.now c.lines.bad
    c.take_line.new.bad
    c.lines.number c.lines.left.now c.cut_line.result.0.now c.in-Some.rest.now c.lines.invariant
    (rw c.in-Some.is at c.cut_line.ensures.lines)
    (rw c.in-Some.is at c.cut_line.ensures.shorter) c.in_ok-take_line.ensures.frames c.in_ok-take_line.ensures.refused
