use Rattle.std.proofs.Common.{take, Some, None, ◌∙◌}
use Rattle.std.proofs.lemmas.Bool.Decides.{Decides-eqb}
use Rattle.std.proofs.lemmas.Slice.Eq.{strip_prefix_is}
use Rattle.pred_eval.proofs.WildLaws.{begins_so, begins_otherwise, plain_whole, plain_is_equal}
use Rattle.pred_eval.proofs.wild.is_wild.Goals as goal

pub returns-in_default : goal.returns-in_default
returns-in_default c =
    c.eq.ensures
    ∙ plain_is_equal c.args.pattern.now (plain_whole c.args.pattern.now c.in_default.ensures) c.args.text.now

pub returns-in-Some-strip_prefix : goal.returns-in-Some-strip_prefix
returns-in-Some-strip_prefix c =
    c.ends_wild.ensures
    ∙ begins_so c.args.pattern.now c.in-Some.at c.in-Some.ensures.0 c.in-Some.ensures.1 c.args.text.now
    c.in-Some-strip_prefix.rest.now
    (strip_prefix_is Decides-eqb c.args.text.now (take c.in-Some.at c.args.pattern.now)
    (Some c.in-Some-strip_prefix.rest) c.in-Some-strip_prefix.ensures.cases)

pub returns-in-None : goal.returns-in-None
returns-in-None c =
    begins_otherwise c.args.pattern.now c.in-Some.at c.in-Some.ensures.0 c.in-Some.ensures.1 c.args.text.now
    (strip_prefix_is Decides-eqb c.args.text.now (take c.in-Some.at c.args.pattern.now) None c.in-None.ensures.cases)
