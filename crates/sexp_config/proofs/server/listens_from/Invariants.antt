use Rattle.std.proofs.Common.{◌≡◌, length}
use Rattle.sexp_read.specs.Tree.{form_trees}
use Rattle.sexp_config.specs.Tops.{listens_from, no_listens}
use Rattle.sexp_config.specs.Drafts.{listens_made}
use Rattle.sexp_config.proofs.server.listens_from.Given as goal

abbrev pub invariant-entries : goal.invariant-entries
invariant-entries l =
    listens_from l.place l.env (listens_made l.listens) (form_trees l.left)
    ≡ listens_from l.place l.env no_listens (form_trees l.entries)

abbrev pub decreases-entries : goal.decreases-entries
decreases-entries l = length l.left
