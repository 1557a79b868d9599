use Rattle.std.proofs.Common.{◌≡◌, ◌++◌, OnOk, sym, subst}
use Rattle.pred_eval.specs.Building.{texts_of}
use Rattle.pred_eval.proofs.BuildLaws.{prefix_more, on_error}
use Rattle.pred_eval.proofs.TreeLaws.{searches_of_all, searches_of_any}
use Rattle.pred_eval.proofs.pred.+collect.Goals as goal

pub append_texts-returns-in-All-clause-ok : goal.append_texts-returns-in-All-clause-ok
append_texts-returns-in-All-clause-ok t c =
    subst (λ found.
    OnOk c.append_all.result (texts_of c.append_all.new.texts.items ≡ texts_of c.args.texts.now.items ++ found))
    (sym (searches_of_all c.args.rule.now c.in-All.rules c.in-All.is)) c.append_all.ensures.ok

pub append_texts-returns-in-Any-clause-ok : goal.append_texts-returns-in-Any-clause-ok
append_texts-returns-in-Any-clause-ok t c =
    subst (λ found. OnOk c.append_all-in-Any.result
    (texts_of c.append_all-in-Any.new.texts.items ≡ texts_of c.args.texts.now.items ++ found))
    (sym (searches_of_any c.args.rule.now c.in-Any.rules c.in-Any.is)) c.append_all-in-Any.ensures.ok

pub append_all-returns-in_err-append_texts-clause-err : goal.append_all-returns-in_err-append_texts-clause-err
append_all-returns-in_err-append_texts-clause-err t c =
    on_error c.from_residual.result (prefix_more _ _ _ c.loop-rule.invariant.0 c.in_err-append_texts.ensures.err)
