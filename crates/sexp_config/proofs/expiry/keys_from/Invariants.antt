use Rattle.std.proofs.Common.{◌≡◌, None, length}
use Rattle.sexp_read.specs.Tree.{form_trees}
use Rattle.config_terms.specs.Words.{keep_text}
use Rattle.config_terms.specs.Arguments.{one_entry}
use Rattle.sexp_config.specs.Tops.{keys_at}
use Rattle.sexp_config.proofs.expiry.keys_from.Given as goal

abbrev pub invariant-entries : goal.invariant-entries
invariant-entries l =
    one_entry keep_text keys_at l.place l.env l.keys (form_trees l.left)
    ≡ one_entry keep_text keys_at l.place l.env None (form_trees l.entries)

abbrev pub decreases-entries : goal.decreases-entries
decreases-entries l = length l.left
