use Rattle.command_io.proofs.lines.report_line.Goals as goal

pub returns-in-ConfigRefused-clause-says : goal.returns-in-ConfigRefused-clause-says
returns-in-ConfigRefused-clause-says g c = rw c.in-ConfigRefused.is c.report_refusal.ensures

pub returns-in-LinksFailed-clause-says : goal.returns-in-LinksFailed-clause-says
returns-in-LinksFailed-clause-says g c = rw c.in-LinksFailed.is c.put_line.ensures

pub returns-in-ScriptRefused-clause-says : goal.returns-in-ScriptRefused-clause-says
returns-in-ScriptRefused-clause-says g c = rw c.in-ScriptRefused.is c.report_script.ensures

pub returns-in-OutOfMemory-clause-says : goal.returns-in-OutOfMemory-clause-says
returns-in-OutOfMemory-clause-says g c = rw c.in-OutOfMemory.is c.put_line-in-OutOfMemory.ensures

pub returns-in-Unread-clause-says : goal.returns-in-Unread-clause-says
returns-in-Unread-clause-says g c = rw c.in-Unread.is c.report_unread.ensures

pub returns-in-OverLimit-clause-says : goal.returns-in-OverLimit-clause-says
returns-in-OverLimit-clause-says g c = rw c.in-OverLimit.is c.report_too_long.ensures
