use Rattle.command_io.proofs.lines.report_refused.Goals as goal

pub returns : goal.returns
returns g c = rw (c.format-place.ensures.text, c.name.ensures) at c.put_line.ensures
