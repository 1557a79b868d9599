use Rattle.command_client.proofs.ending.report_ending.Goals as goal

pub returns-in-Shared-clause-status : goal.returns-in-Shared-clause-status
returns-in-Shared-clause-status g c = rw c.in-Shared.is c.report.ensures.status

pub returns-in-Shared-clause-says : goal.returns-in-Shared-clause-says
returns-in-Shared-clause-says g c = rw c.in-Shared.is c.report.ensures.says

pub returns-in-Lost-clause-says : goal.returns-in-Lost-clause-says
returns-in-Lost-clause-says g c = rw c.in-Lost.is c.report_lost.ensures

pub returns-in-Unasked-clause-says : goal.returns-in-Unasked-clause-says
returns-in-Unasked-clause-says g c = rw c.in-Unasked.is c.report_unasked.ensures

pub returns-in-Refused-clause-says : goal.returns-in-Refused-clause-says
returns-in-Refused-clause-says g c = rw c.in-Refused.is c.report_refused.ensures
