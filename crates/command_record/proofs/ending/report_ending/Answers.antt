use Rattle.command_record.proofs.ending.report_ending.Goals as goal

pub returns-in-Shared-clause-status : goal.returns-in-Shared-clause-status
returns-in-Shared-clause-status g c = rw c.in-Shared.is c.report.ensures.status

pub returns-in-Shared-clause-says : goal.returns-in-Shared-clause-says
returns-in-Shared-clause-says g c = rw c.in-Shared.is c.report.ensures.says

pub returns-in-Refused-clause-says : goal.returns-in-Refused-clause-says
returns-in-Refused-clause-says g c = rw c.in-Refused.is c.report_refused.ensures

pub returns-in-DiskFailed-clause-says : goal.returns-in-DiskFailed-clause-says
returns-in-DiskFailed-clause-says g c = rw c.in-DiskFailed.is c.put_line.ensures
