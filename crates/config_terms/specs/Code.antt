-- What values of the code represent.
use Rattle.std.specs.Prelude.{ℕ, zero, suc, ◌+◌, ◌≤◌, List, Option, Some, None}
use Rattle.sexp_read.specs.declared.piece.Atom.TheVariants as atom
use Rattle.sexp_read.specs.declared.piece.Bracket.TheVariants.{Round, Square, Curly}
use Rattle.sexp_read.specs.Tree.{FormTree, FormTrees, Single, Group, none, also, form_trees}
use Rattle.config_terms.specs.Steps.{start_of}
use Rattle.config_terms.specs.declared.forms.View.{View}
use Rattle.config_terms.specs.declared.forms.View.TheVariants as view
use Rattle.config_terms.specs.declared.arguments.Argument as code
use Rattle.config_terms.specs.declared.arguments.Argument.TheVariants as given
use Rattle.config_terms.specs.Arguments.{Argument, Text, Pattern, Number, Keyword, Index, Unbound, Forms}

-- a form by its head
pub data Look : Type 0 where
  Symbol : List ℕ → Look
  Call : List ℕ → FormTrees → Look
  Lookup : List ℕ → FormTrees → Look
  Other : Look

unfoldable pub look_of : FormTree → Look
look_of (Single (atom.Symbol name) start last) = Symbol name
look_of (Group Round (also (Single (atom.Symbol name) begin end) forms) start last) = Call name forms
look_of (Group Round (also (Single (atom.Keyword name) begin end) forms) start last) = Lookup name forms
look_of _ = Other

-- the number of forms in a form, and of brackets
abbrev mutual
  pub form_weight : FormTree → ℕ
  form_weight (Single atom start last) = 0
  form_weight (Group bracket forms start last) = weight forms + 1

  pub weight : FormTrees → ℕ
  weight none = 0
  weight (also form forms) = form_weight form + weight forms + 1

-- the forms after a head weigh less than the whole
abbrev pub IsWithin : Look → FormTree → Type 0
IsWithin (Call name forms) form = weight forms + 2 ≤ form_weight form
IsWithin (Lookup name forms) form = weight forms + 2 ≤ form_weight form
IsWithin _ form = Unit {0}

abbrev pub look_in : View → Look
look_in (view.Symbol name) = Symbol name.now
look_in (view.Call name forms) = Call name.now (form_trees forms.now)
look_in (view.Lookup name forms) = Lookup name.now (form_trees forms.now)
look_in view.Other = Other

abbrev pub argument_in : code.Argument → Argument
argument_in (given.Text text) = Text text.now
argument_in (given.Pattern text) = Pattern text.now
argument_in (given.Number number) = Number number
argument_in (given.Keyword key) = Keyword key.now
argument_in given.Index = Index
argument_in (given.Unbound name) = Unbound name.now
argument_in (given.List forms) = Forms Round (form_trees forms.now)
argument_in (given.Vector forms) = Forms Square (form_trees forms.now)
argument_in (given.Map forms) = Forms Curly (form_trees forms.now)

-- the forms between the braces, where the form is a map
abbrev pub map_in : FormTree → Option FormTrees
map_in (Group Curly forms start last) = Some forms
map_in _ = None

-- the forms after the first n
abbrev pub later : ℕ → FormTrees → FormTrees
later zero forms = forms
later (suc n) none = none
later (suc n) (also form forms) = later n forms

-- the place of the first form
abbrev pub next_of : FormTrees → Option ℕ
next_of none = None
next_of (also form forms) = Some (start_of form)

abbrev pub vector_in_form : FormTree → Option FormTrees
vector_in_form (Group Square forms start last) = Some forms
vector_in_form _ = None
