use Rattle.std.proofs.Common.{◌<◌, ◌+◌, arith}
use Rattle.std.proofs.lemmas.List.{take_rest}
use Rattle.graphite_lines.proofs.PathLaws.{first_span, later_span, no_later_part, no_more_parts}
use Rattle.graphite_lines.proofs.path.+part_span.Goals as goal

pub returns-in_default : goal.returns-in_default
returns-in_default t c = no_more_parts c.args.path.now c.args.number c.requires c.in_default.ensures

pub returns-then-number-eq1 : goal.returns-then-number-eq1
returns-then-number-eq1 t c =
    rw c.if-number-eq1.true (first_span c.args.path.now c.in-Some.dot c.in-Some.ensures.0 c.in-Some.ensures.1)

pub returns-in-Some-part_span : goal.returns-in-Some-part_span
returns-in-Some-part_span t c =
    let path = c.args.path.now in let number = c.args.number in let dot = c.in-Some.dot in
    let many : 1 < number = omega arith in
    later_span path number dot c.in-Some-part_span.start c.in-Some-part_span.end many c.in-Some.ensures.0
    c.in-Some.ensures.1
    (rw (take_rest path (dot + 1)) at c.in-Some-part_span.ensures)

pub returns-in-None : goal.returns-in-None
returns-in-None t c =
    let path = c.args.path.now in let number = c.args.number in let dot = c.in-Some.dot in
    let many : 1 < number = omega arith in
    no_later_part path number dot many c.in-Some.ensures.0 c.in-Some.ensures.1
    (rw (take_rest path (dot + 1)) at c.in-None.ensures)
