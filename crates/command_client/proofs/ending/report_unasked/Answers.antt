use Rattle.command_client.proofs.ending.report_unasked.Goals as goal

pub returns : goal.returns
returns g c = rw c.format-number.ensures.text at c.put_line.ensures
