use Rattle.stream_meaning.proofs.KeyLaws.{keys_act_by_forks, keys_have_outputs, outputs_have_one}
use Rattle.stream_meaning.proofs.law.keys_have_their_outputs.Goals as goal

pub returns-clause-entry : goal.returns-clause-entry
returns-clause-entry c = keys_act_by_forks

pub returns-clause-history : goal.returns-clause-history
returns-clause-history c = keys_have_outputs

pub returns-clause-one : goal.returns-clause-one
returns-clause-one c = outputs_have_one
