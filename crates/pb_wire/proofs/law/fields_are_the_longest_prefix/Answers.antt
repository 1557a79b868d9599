use Rattle.pb_wire.proofs.RowLaws.{fields_in_row, fields_are_longest, fault_is_after, fault_has_cause}
use Rattle.pb_wire.proofs.law.fields_are_the_longest_prefix.Goals as goal

pub returns-clause-in_row : goal.returns-clause-in_row
returns-clause-in_row c = fields_in_row

pub returns-clause-longest : goal.returns-clause-longest
returns-clause-longest c = fields_are_longest

pub returns-clause-fault : goal.returns-clause-fault
returns-clause-fault c = fault_is_after

pub returns-clause-cause : goal.returns-clause-cause
returns-clause-cause c = fault_has_cause
