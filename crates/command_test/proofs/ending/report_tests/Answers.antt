use Rattle.command_test.proofs.ending.report_tests.Goals as goal

pub returns : goal.returns
returns g c = rw (c.format-place.ensures.text, c.name.ensures) at c.put_line.ensures
