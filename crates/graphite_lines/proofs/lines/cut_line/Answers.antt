use Rattle.std.proofs.Common.{ℕ, ◌+◌, List, ◌∷◌, length, take, drop, ◌-◌, sym, ◌∙◌, ap}
use Rattle.graphite_lines.specs.Lines.{lines_of}
use Rattle.graphite_lines.proofs.LineLaws.{last_line, more_lines}
use Rattle.graphite_lines.proofs.lines.cut_line.Goals as goal

pub returns-in-Some-clause-lines : goal.returns-in-Some-clause-lines
returns-in-Some-clause-lines c =
    let text = c.args.text.now in let end = c.in-Some.end in
    more_lines text end c.in-Some.ensures.0 c.in-Some.ensures.1
    ∙ ap (λ (line : List ℕ). line ∷ lines_of (take (length text - (end + 1)) (drop (end + 1) text)))
    (sym c.without_cr.ensures)

pub returns-in-None-clause-lines : goal.returns-in-None-clause-lines
returns-in-None-clause-lines c = last_line c.args.text.now c.in-None.ensures
