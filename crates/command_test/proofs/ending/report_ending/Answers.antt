use Rattle.command_test.proofs.ending.report_ending.Goals as goal

pub returns-in-Shared-clause-status : goal.returns-in-Shared-clause-status
returns-in-Shared-clause-status g c = rw c.in-Shared.is c.report.ensures.status

pub returns-in-Shared-clause-says : goal.returns-in-Shared-clause-says
returns-in-Shared-clause-says g c = rw c.in-Shared.is c.report.ensures.says

pub returns-in-TestsRefused-clause-says : goal.returns-in-TestsRefused-clause-says
returns-in-TestsRefused-clause-says g c = rw c.in-TestsRefused.is c.report_tests.ensures
