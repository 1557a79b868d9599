use Rattle.command_io.proofs.lines.report_script.Goals as goal

pub returns : goal.returns
returns g c = rw c.format-line.ensures.text at c.put_line.ensures
