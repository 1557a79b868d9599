use Rattle.sexp_read.proofs.Forms.{list_tree, vector_tree, map_tree}
use Rattle.sexp_read.proofs.made.group_form.Goals as goal
use Rattle.sexp_read.proofs.made.group_form.Goals.{in-Round, in-Square, in-Curly}

pub returns : goal.returns
returns c = elim c.match-bracket.branch [
  | in-Round w ↦ rw (w.shape-is, w.in-Round.is) (list_tree c.args.forms c.args.start c.args.end)
  | in-Square w ↦ rw (w.shape-is, w.in-Square.is) (vector_tree c.args.forms c.args.start c.args.end)
  | in-Curly w ↦ rw (w.shape-is, w.in-Curly.is) (map_tree c.args.forms c.args.start c.args.end)
]
