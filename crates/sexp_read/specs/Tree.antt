-- Forms as plain trees, apart from where they lie in memory. Forms are compared by their trees.
use Rattle.std.specs.Prelude.{ℕ, List, [], ◌∷◌}
use Rattle.sexp_read.specs.declared.form.Form.{Form}
use Rattle.sexp_read.specs.declared.form.Shape.{Shape, Row_of-Form, end_of-Form, more_of-Form}
use Rattle.sexp_read.specs.declared.form.Shape as code
pub use Rattle.sexp_read.specs.declared.piece.Bracket.{Bracket}
pub use Rattle.sexp_read.specs.declared.piece.Bracket.TheVariants.{Round, Square, Curly}
pub use Rattle.sexp_read.specs.declared.piece.Atom.{Atom}
pub use Rattle.sexp_read.specs.declared.piece.Atom.TheVariants.{Text, Pattern, Number, Keyword, Symbol}

-- A form with the place of its first byte, and the place just past its last one: a single text or pattern as it is
-- read, number, keyword by its name or symbol, or a group of forms in brackets of a kind.
mutual
  pub data FormTree : Type 0 where
    Single : Atom → ℕ → ℕ → FormTree
    Group : Bracket → FormTrees → ℕ → ℕ → FormTree

  pub data FormTrees : Type 0 where
    none : FormTrees
    also : FormTree → FormTrees → FormTrees

abbrev mutual
  pub shape_tree : Shape → ℕ → ℕ → FormTree
  shape_tree (code.List' shape forms) start last = Group Round (row_trees forms) start last
  shape_tree (code.Vector' shape forms) start last = Group Square (row_trees forms) start last
  shape_tree (code.Map' shape forms) start last = Group Curly (row_trees forms) start last
  shape_tree (code.Text text) start last = Single (Text text) start last
  shape_tree (code.Pattern text) start last = Single (Pattern text) start last
  shape_tree (code.Number number) start last = Single (Number number) start last
  shape_tree (code.Keyword text) start last = Single (Keyword text) start last
  shape_tree (code.Symbol text) start last = Single (Symbol text) start last

  pub row_trees : {m : _} → Row_of-Form m → FormTrees
  row_trees end_of-Form = none
  row_trees (more_of-Form shape start last forms) = also (shape_tree shape start last) (row_trees forms)

abbrev pub form_tree : Form → FormTree
form_tree form = shape_tree form.shape form.start form.end

abbrev pub form_trees : List Form → FormTrees
form_trees [] = none
form_trees (form ∷ forms) = also (form_tree form) (form_trees forms)
