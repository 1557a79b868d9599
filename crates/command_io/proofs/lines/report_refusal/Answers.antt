use Rattle.command_io.proofs.lines.report_refusal.Goals as goal

pub returns-in-Refused : goal.returns-in-Refused
returns-in-Refused g c = rw c.in-Refused.is c.report_refused.ensures

pub returns-in-Pattern : goal.returns-in-Pattern
returns-in-Pattern g c = rw c.in-Pattern.is c.report_pattern.ensures
