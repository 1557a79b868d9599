use Rattle.graphite_lines.proofs.path.+part_span.Given as goal

abbrev pub decreases-part_span : goal.decreases-part_span
decreases-part_span l = l.number
