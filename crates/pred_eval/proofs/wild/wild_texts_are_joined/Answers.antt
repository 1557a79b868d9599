use Rattle.pred_eval.proofs.WildLaws.{wild_is_joined}
use Rattle.pred_eval.proofs.wild.wild_texts_are_joined.Goals as goal

pub returns : goal.returns
returns c = wild_is_joined
