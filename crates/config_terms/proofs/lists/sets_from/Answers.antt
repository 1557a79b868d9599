use Rattle.std.proofs.Common.{sym, ◌∙◌}
use Rattle.config_terms.proofs.EntryLaws.{sets_more}
use Rattle.config_terms.proofs.lists.sets_from.Goals as goal

pub sets-preserved : goal.sets-preserved
sets-preserved c =
    sym (sets_more _ _ _ _ _ _ _ _ _ _ _ c.in-Some.ensures.split c.in-Some-first.ensures.split c.in_ok-field.ensures
    c.in_ok-set.ensures c.in_ok-push.ensures.ok)
    ∙ c.sets.invariant
