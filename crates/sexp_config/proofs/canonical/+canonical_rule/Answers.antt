use Rattle.std.proofs.Common.{◌∙◌}
use Rattle.std.proofs.lemmas.Result.{IfOk-weaker}
use Rattle.sexp_config.proofs.CanonicalLaws.{all_formed, any_formed}
use Rattle.sexp_config.proofs.canonical.+canonical_rule.Goals as goal

pub rule_form-returns-in-All : goal.rule_form-returns-in-All
rule_form-returns-in-All t c =
    IfOk-weaker c.joined.result _ _
    (λ form known. known ∙ all_formed c.args.rule.now c.in-All.parts _ c.in-All.is c.as_slice.ensures.value)
    c.joined.ensures

pub rule_form-returns-in-Any : goal.rule_form-returns-in-Any
rule_form-returns-in-Any t c =
    IfOk-weaker c.joined-in-Any.result _ _
    (λ form known. known ∙ any_formed c.args.rule.now c.in-Any.parts _ c.in-Any.is c.as_slice-in-Any.ensures.value)
    c.joined-in-Any.ensures
