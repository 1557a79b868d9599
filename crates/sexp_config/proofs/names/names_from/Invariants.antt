use Rattle.std.proofs.Common.{◌≡◌, ◌≤◌, length, take}
use Rattle.sexp_read.specs.Tree.{form_trees}
use Rattle.sexp_config.specs.Tops.{names_from}
use Rattle.sexp_config.proofs.names.names_from.Given as goal

abbrev pub invariant-names : goal.invariant-names
invariant-names l = record {
  read : names_from l.place l.env.items (form_trees l.left) ≡ names_from l.place l.fn.env.items (form_trees l.entries);
  kept : take (length l.fn.env.items) l.env.items ≡ l.fn.env.items;
  grown : length l.fn.env.items ≤ length l.env.items;
}

abbrev pub decreases-names : goal.decreases-names
decreases-names l = length l.left
