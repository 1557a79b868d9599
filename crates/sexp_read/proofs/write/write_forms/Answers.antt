use Rattle.sexp_read.proofs.WritingLaws.{lines_step}
use Rattle.sexp_read.proofs.write.write_forms.Goals as goal

pub loop-form-preserved : goal.loop-form-preserved
loop-form-preserved c =
    lines_step _ _ _ _ _ _ _ c.loop-form.invariant c.in_ok-put_form.ensures.ok c.in_ok-push.ensures.ok
    c.loop-form-test.true c.form-item.is
