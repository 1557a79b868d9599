-- Forms of the code, by their trees.
use Rattle.std.proofs.Common.{◌≡◌, ℕ, zero, suc, ◌<◌, ◌≤◌, get_or, drop, take, ◌-◌, length-drop, List, [], ◌∷◌, length}
use Rattle.std.proofs.Common.{Vec, Global, Some, None, refl, ap, sym, ◌∙◌, subst, arith}
use Rattle.sexp_read.specs.declared.form.Form.{Form}
use Rattle.std.proofs.lemmas.List.{take_all}
use Rattle.sexp_read.proofs.Forms as read
use Rattle.sexp_read.specs.declared.form.Shape.{Shape}
use Rattle.sexp_read.specs.declared.form.Shape as code
use Rattle.sexp_read.specs.declared.piece.Bracket.TheVariants.{Round, Square, Curly}
use Rattle.sexp_read.specs.Tree.{FormTree, FormTrees, Single, Group, none, also, shape_tree, form_tree, form_trees}
use Rattle.config_terms.specs.Steps.{start_of, nth}
use Rattle.config_terms.specs.Code.{Look, look_of, IsWithin, weight, later}
use Rattle.sexp_read.specs.declared.piece.Atom.TheVariants as atom

-- a form between brackets, of whose forms these are the list
pub list_tree : (form : Form) (forms : Vec Form Global) → form.shape ≡ code.List forms
    → form_tree form ≡ Group Round (form_trees forms.items) form.start form.end
list_tree form forms e =
    ap (λ (shape : Shape). shape_tree shape form.start form.end) e ∙ read.list_tree forms form.start form.end

pub vector_tree : (form : Form) (forms : Vec Form Global) → form.shape ≡ code.Vector forms
    → form_tree form ≡ Group Square (form_trees forms.items) form.start form.end
vector_tree form forms e =
    ap (λ (shape : Shape). shape_tree shape form.start form.end) e ∙ read.vector_tree forms form.start form.end

pub map_tree : (form : Form) (forms : Vec Form Global) → form.shape ≡ code.Map forms
    → form_tree form ≡ Group Curly (form_trees forms.items) form.start form.end
map_tree form forms e =
    ap (λ (shape : Shape). shape_tree shape form.start form.end) e ∙ read.map_tree forms form.start form.end

start_of_shape : (shape : Shape) (start last : ℕ) → start_of (shape_tree shape start last) ≡ start
start_of_shape (code.List' shape forms) start last = refl
start_of_shape (code.Vector' shape forms) start last = refl
start_of_shape (code.Map' shape forms) start last = refl
start_of_shape (code.Text text) start last = refl
start_of_shape (code.Pattern text) start last = refl
start_of_shape (code.Number number) start last = refl
start_of_shape (code.Keyword text) start last = refl
start_of_shape (code.Symbol text) start last = refl

pub start_of_form : (form : Form) → start_of (form_tree form) ≡ form.start
start_of_form form = start_of_shape form.shape form.start form.end

pub nth_within : (forms : List Form) (n : ℕ) (form : Form) → n < length forms → form ≡ get_or forms n form
    → nth n (form_trees forms) ≡ Some (form_tree form)
nth_within [] n form within is = absurd (omega arith)
nth_within (first ∷ forms) zero form within is = ap (λ (f : Form). Some (form_tree f)) (sym is)
nth_within (first ∷ forms) (suc n) form within is = nth_within forms n form (omega arith) is

pub nth_past : (forms : List Form) (n : ℕ) → length forms ≤ n → nth n (form_trees forms) ≡ None
nth_past [] n past = refl
nth_past (form ∷ forms) zero past = absurd (omega arith)
nth_past (form ∷ forms) (suc n) past = nth_past forms n (omega arith)

-- a list looks the same wherever it is
look_of_group : (forms : FormTrees) (start last : ℕ)
    → look_of (Group Round forms 0 0) ≡ look_of (Group Round forms start last)
unfolding look_of
look_of_group none start last = refl
look_of_group (also (Single (atom.Symbol name) b e) forms) start last = refl
look_of_group (also (Single (atom.Keyword name) b e) forms) start last = refl
look_of_group (also (Single (atom.Text name) b e) forms) start last = refl
look_of_group (also (Single (atom.Pattern name) b e) forms) start last = refl
look_of_group (also (Single (atom.Number name) b e) forms) start last = refl
look_of_group (also (Group bracket more b e) forms) start last = refl

pub look_of_list : (lent forms : List Form) (start last : ℕ) → lent ≡ forms
    → look_of (Group Round (form_trees lent) 0 0) ≡ look_of (Group Round (form_trees forms) start last)
look_of_list lent forms start last e =
    look_of_group (form_trees lent) start last
    ∙ ap (λ (held : List Form). look_of (Group Round (form_trees held) start last)) e

pub look_is_within : (form : FormTree) → IsWithin (look_of form) form
unfolding look_of
look_is_within (Single (atom.Symbol name) start last) = tt
look_is_within (Single (atom.Text name) start last) = tt
look_is_within (Single (atom.Pattern name) start last) = tt
look_is_within (Single (atom.Number name) start last) = tt
look_is_within (Single (atom.Keyword name) start last) = tt
look_is_within (Group Round (also (Single (atom.Symbol name) begin end) forms) start last) = omega arith
look_is_within (Group Round (also (Single (atom.Keyword name) begin end) forms) start last) = omega arith
look_is_within (Group Round (also (Single (atom.Text name) begin end) forms) start last) = tt
look_is_within (Group Round (also (Single (atom.Pattern name) begin end) forms) start last) = tt
look_is_within (Group Round (also (Single (atom.Number name) begin end) forms) start last) = tt
look_is_within (Group Round (also (Group bracket more begin end) forms) start last) = tt
look_is_within (Group Round none start last) = tt
look_is_within (Group Square forms start last) = tt
look_is_within (Group Curly forms start last) = tt

pub same_look_is_within : (look : Look) (form : FormTree) → look ≡ look_of form → IsWithin look form
same_look_is_within look form e = subst (λ (l : Look). IsWithin l form) (sym e) (look_is_within form)

pub later_within : (forms : List Form) (n : ℕ) → n < length forms
    → form_trees (drop n forms) ≡ later n (form_trees forms)
later_within [] n within = absurd (omega arith)
later_within (form ∷ forms) zero within = refl
later_within (form ∷ []) (suc n) within = absurd (omega arith)
later_within (form ∷ second ∷ forms) (suc n) within = later_within (second ∷ forms) n (omega arith)

pub later_past : (forms : List Form) (n : ℕ) → length forms ≤ n → later n (form_trees forms) ≡ none
later_past [] zero past = refl
later_past [] (suc n) past = refl
later_past (form ∷ forms) zero past = absurd (omega arith)
later_past (form ∷ forms) (suc n) past = later_past forms n (omega arith)

later_lighter : (n : ℕ) (forms : FormTrees) → weight (later n forms) ≤ weight forms
later_lighter zero forms = omega arith
later_lighter (suc n) none = omega arith
later_lighter (suc n) (also form forms) = omega (arith, later_lighter n forms)

pub later_is_lighter : (n : ℕ) (forms rest : FormTrees) → rest ≡ later n forms → weight rest ≤ weight forms
later_is_lighter n forms rest e = subst (λ (f : FormTrees). weight f ≤ weight forms) (sym e) (later_lighter n forms)

pub later_taken : (forms : List Form) (n : ℕ) → n < length forms
    → form_trees (take (length forms - n) (drop n forms)) ≡ later n (form_trees forms)
later_taken forms n within =
    ap form_trees (take_all (length forms - n) (drop n forms) (omega (arith, length-drop n forms)))
    ∙ later_within forms n within
