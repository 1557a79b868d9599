use Rattle.pb_wire.proofs.ReadBackLaws.{field_reads_back, fields_read_back}
use Rattle.pb_wire.proofs.law.written_is_read.Goals as goal

pub returns-clause-fields : goal.returns-clause-fields
returns-clause-fields c = fields_read_back

pub returns-clause-field : goal.returns-clause-field
returns-clause-field c = field_reads_back
