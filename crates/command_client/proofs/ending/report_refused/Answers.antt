use Rattle.command_client.proofs.ending.report_refused.Goals as goal

pub returns : goal.returns
returns g c = rw (c.format-number.ensures.text, c.format-place.ensures.text, c.name.ensures) at c.put_line.ensures
