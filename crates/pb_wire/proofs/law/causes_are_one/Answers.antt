use Rattle.pb_wire.proofs.CauseLaws.{causes_are_found, causes_are_one, fields_have_none}
use Rattle.pb_wire.proofs.law.causes_are_one.Goals as goal

pub returns-clause-found : goal.returns-clause-found
returns-clause-found c = causes_are_found

pub returns-clause-one : goal.returns-clause-one
returns-clause-one c = causes_are_one

pub returns-clause-none : goal.returns-clause-none
returns-clause-none c = fields_have_none
