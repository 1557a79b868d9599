use Rattle.std.proofs.Common.{◌∙◌, ap, List, ℕ, ◌++◌}
use Rattle.sexp_read.proofs.WritingLaws.{list_text, vector_text, map_text, following_step}
use Rattle.sexp_read.proofs.write.+write.Goals as goal

pub put_form-returns-in_ok-put_group-in-List-clause-ok : goal.put_form-returns-in_ok-put_group-in-List-clause-ok
put_form-returns-in_ok-put_group-in-List-clause-ok t c =
    c.in_ok-put_group-in-List.ensures.ok
    ∙ ap (λ (text : List ℕ). c.args.out.now ++ text)
    (list_text c.args.form.now c.in-List.forms _ c.in-List.is c.as_slice.ensures.value)

pub put_form-returns-in_ok-put_group-in-Vector-clause-ok : goal.put_form-returns-in_ok-put_group-in-Vector-clause-ok
put_form-returns-in_ok-put_group-in-Vector-clause-ok t c =
    c.in_ok-put_group-in-Vector.ensures.ok
    ∙ ap (λ (text : List ℕ). c.args.out.now ++ text)
    (vector_text c.args.form.now c.in-Vector.forms _ c.in-Vector.is c.as_slice-in-Vector.ensures.value)

pub put_form-returns-in_ok-put_group-in-Map-clause-ok : goal.put_form-returns-in_ok-put_group-in-Map-clause-ok
put_form-returns-in_ok-put_group-in-Map-clause-ok t c =
    c.in_ok-put_group-in-Map.ensures.ok
    ∙ ap (λ (text : List ℕ). c.args.out.now ++ text)
    (map_text c.args.form.now c.in-Map.forms _ c.in-Map.is c.as_slice-in-Map.ensures.value)

pub put_between-loop-form-preserved : goal.put_between-loop-form-preserved
put_between-loop-form-preserved t c =
    following_step _ _ _ _ _ _ _ _ c.loop-form.invariant c.in_ok-push.ensures.ok c.in_ok-put_form-2.ensures.ok
    c.loop-form-test.true c.form-item.is
