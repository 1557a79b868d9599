use Rattle.std.proofs.Common.{◌≡◌, [], length}
use Rattle.sexp_read.specs.Tree.{form_trees}
use Rattle.config_terms.specs.Steps.{each, onto}
use Rattle.sexp_config.specs.Tops.{keep_at}
use Rattle.sexp_config.proofs.expiry.keys_in.Given as goal

abbrev pub invariant-keys : goal.invariant-keys
invariant-keys l =
    each (onto (keep_at l.env)) l.keys (form_trees l.left) ≡ each (onto (keep_at l.env)) [] (form_trees l.forms)

abbrev pub decreases-keys : goal.decreases-keys
decreases-keys l = length l.left
