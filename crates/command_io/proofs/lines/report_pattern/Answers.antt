use Rattle.command_io.proofs.lines.report_pattern.Goals as goal

pub returns : goal.returns
returns g c = rw c.format-number.ensures.text at c.put_line.ensures
