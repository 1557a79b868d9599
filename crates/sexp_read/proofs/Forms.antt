-- Forms as plain trees, at the values that the code makes.
use Rattle.std.proofs.Common.{◌≡◌, ℕ, List, [], ◌∷◌, ◌++◌, Vec, Global, refl, ap, ◌∙◌}
use Rattle.sexp_read.specs.declared.form.Form.{Form}
use Rattle.sexp_read.specs.declared.form.Shape.{Row_of-Form, end_of-Form, more_of-Form, items-the_row-Form}
use Rattle.sexp_read.specs.declared.form.Shape.{items_hidden-the_row-Form-0}
use Rattle.sexp_read.specs.declared.form.Shape.TheBlock.{hidden-the_row-Form-0}
use Rattle.sexp_read.specs.declared.form.Shape as code
use Rattle.sexp_read.specs.Tree.{Round, Square, Curly, Group, also, shape_tree, row_trees, form_tree, form_trees}
use Rattle.sexp_read.specs.Reading.{with_form}

row_is_list : {m : _} (row : Row_of-Form m) → row_trees row ≡ form_trees (items-the_row-Form m row)
row_is_list end_of-Form = refl
row_is_list (more_of-Form shape start last forms) =
    ap (λ more. also (shape_tree shape start last) more) (row_is_list forms)

hidden_trees : (forms : Vec Form Global) → row_trees (hidden-the_row-Form-0 forms) ≡ form_trees forms.items
hidden_trees forms = row_is_list (hidden-the_row-Form-0 forms) ∙ ap form_trees (items_hidden-the_row-Form-0 forms)

pub list_tree : (forms : Vec Form Global) (start last : ℕ)
    → shape_tree (code.List forms) start last ≡ Group Round (form_trees forms.items) start last
list_tree forms start last = ap (λ more. Group Round more start last) (hidden_trees forms)

pub vector_tree : (forms : Vec Form Global) (start last : ℕ)
    → shape_tree (code.Vector forms) start last ≡ Group Square (form_trees forms.items) start last
vector_tree forms start last = ap (λ more. Group Square more start last) (hidden_trees forms)

pub map_tree : (forms : Vec Form Global) (start last : ℕ)
    → shape_tree (code.Map forms) start last ≡ Group Curly (form_trees forms.items) start last
map_tree forms start last = ap (λ more. Group Curly more start last) (hidden_trees forms)

pub form_pushed : (forms : List Form) (form : Form)
    → form_trees (forms ++ form ∷ []) ≡ with_form (form_trees forms) (form_tree form)
form_pushed [] form = refl
form_pushed (first ∷ forms) form = ap (λ more. also (form_tree first) more) (form_pushed forms form)
