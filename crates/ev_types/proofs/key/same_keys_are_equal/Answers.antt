use Rattle.ev_types.proofs.Values.{same_key_decides}
use Rattle.ev_types.proofs.key.same_keys_are_equal.Goals as goal

pub returns : goal.returns
returns c = same_key_decides
