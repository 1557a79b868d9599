use Rattle.command_io.proofs.lines.report_too_long.Goals as goal

pub returns : goal.returns
returns g c = rw c.format-limit.ensures.text at c.put_line.ensures
