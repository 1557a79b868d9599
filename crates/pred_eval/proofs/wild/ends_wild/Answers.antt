use Rattle.std.proofs.Common.{◌∙◌, rules}
use Rattle.std.proofs.lemmas.Bool.Decides.{Decides-eqb}
use Rattle.std.proofs.lemmas.Slice.Eq.{ends_is}
use Rattle.pred_eval.proofs.WildLaws.{goes_on, is_nowhere, plain_whole, plain_end}
use Rattle.pred_eval.proofs.wild.ends_wild.Goals as goal

pub returns-in_default-find : goal.returns-in_default-find
returns-in_default-find c =
    is_nowhere c.loop-at.pattern.now c.in-Some.at c.in-Some.ensures.0 c.in-Some.ensures.1 c.loop-at.text.now
    (search (c.in_default-find.ensures, rules))
    ∙ c.loop-at.invariant

pub loop-at-preserved : goal.loop-at-preserved
loop-at-preserved c =
    goes_on c.loop-at.pattern.now c.in-Some.at c.in-Some.ensures.0 c.in-Some.ensures.1 c.loop-at.text.now
    c.in-Some-find.place c.in-Some-find.ensures.0 c.in-Some-find.ensures.1
    ∙ c.loop-at.invariant

pub returns : goal.returns
returns c =
    let ends =
    ends_is Decides-eqb c.loop-at.text.now c.loop-at.pattern.now c.ends_with.result c.ends_with.ensures.value in
    plain_end c.loop-at.pattern.now (plain_whole c.loop-at.pattern.now c.in_default.ensures) c.loop-at.text.now
    c.ends_with.result (λ yes. (_, ends.0 yes)) ends.1
    ∙ c.loop-at.invariant
