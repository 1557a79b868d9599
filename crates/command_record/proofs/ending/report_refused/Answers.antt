use Rattle.command_record.proofs.ending.report_refused.Goals as goal

pub returns : goal.returns
returns g c = rw c.format-place.ensures.text at c.put_line.ensures
