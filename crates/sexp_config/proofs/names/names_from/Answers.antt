use Rattle.std.proofs.Common.{sym, ◌∙◌}
use Rattle.sexp_config.proofs.TopLaws.{names_more, kept_more, pushed_longer}
use Rattle.sexp_config.proofs.names.names_from.Goals as goal

pub names-preserved : goal.names-preserved
names-preserved c =
    let read = rw c.deref.ensures.value at c.in_ok-value.ensures in
    let pushed = rw c.in_ok-copy.ensures at c.in_ok-push.ensures.items in
    record {
      read =
          sym (names_more _ _ _ _ _ _ _ _ _ _ c.in-Some.ensures.split c.in-Some-first.ensures.split c.in_ok-name.ensures
          read pushed)
          ∙ c.names.invariant.read;
      kept = kept_more _ _ _ _ c.names.invariant.kept c.names.invariant.grown c.in_ok-push.ensures.items;
      grown = pushed_longer _ _ _ _ c.names.invariant.grown c.in_ok-push.ensures.items;
    }
