use Rattle.std.proofs.Common.{sym, ◌∙◌}
use Rattle.sexp_config.proofs.TopLaws.{listens_more}
use Rattle.sexp_config.proofs.server.listens_from.Goals as goal

pub entries-preserved : goal.entries-preserved
entries-preserved c =
    sym (listens_more _ _ _ _ _ _ _ _ _ _ c.in-Some.ensures.split c.in-Some-first.ensures.split c.in_ok-is_host.ensures
    c.in_ok-listens.ensures)
    ∙ c.entries.invariant
