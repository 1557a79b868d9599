-- A form is read as a number in a range, as texts or as fields exactly where it represents these.
use Rattle.std.proofs.Common.{◌≡◌, ◌≤◌, ℕ, ℤ, pos, negsuc, List, [], ◌∷◌, Result, Ok, refl}
use Rattle.std.proofs.Common.{ap, sym, subst, ◌∙◌, int_le}
use Rattle.std.proofs.lemmas.Bool.{leb-true, le-leb, and_parts}
use Rattle.ev_types.specs.declared.field.Field.{Field}
use Rattle.sexp_read.specs.declared.piece.Bracket.TheVariants.{Square, Curly}
use Rattle.sexp_read.specs.Tree.{FormTree, FormTrees, Group}
use Rattle.sexp_read.specs.Written.{BareTree, BareTrees, bare_tree, bare_trees}
use Rattle.config_terms.specs.declared.binding.Bound.TheVariants as bound
use Rattle.config_terms.specs.Steps.{Fault, ◌>>=◌, start_of, each, onto}
use Rattle.config_terms.specs.Arguments.{Env, Argument, Text, Keyword}
use Rattle.config_terms.specs.Arguments.{Forms, argument_of, text_at, number_at, field_at, ranged}
use Rattle.config_terms.specs.Arguments.{vector_in, vector_at, map_in, map_at}
use Rattle.config_terms.specs.Arguments.{ranged_at, some_of, texts_by, texts_at, fields_by}
use Rattle.config_terms.specs.Arguments.{fields_at}
use Rattle.config_terms.specs.Terms.{vector_of, map_of, IsRanged, a_ranged, IsField, a_field, AreTexts}
use Rattle.config_terms.specs.Terms.{IsTexts, text_alone, text_vector, AreFields, IsFields}
use Rattle.config_terms.specs.Terms.{field_alone, field_vector, RangesAreRead, TextVectorsAreRead, FieldVectorsAreRead}
use Rattle.config_terms.proofs.BareForms.{group_of}
use Rattle.config_terms.proofs.Outcomes.{OkGood, SomeGood, bind_good, weaker, ok_if, ok_read}
use Rattle.config_terms.proofs.GrammarRead.{literal_read, number_read}
use Rattle.config_terms.proofs.GrammarOnly.{TextIs, NumberIs, Meaning, meaning, taken_means, text_means, number_means}
use Rattle.config_terms.proofs.TermLaws.{keyword_field, field_means, texts_are_read, fields_are_read}
use Rattle.config_terms.proofs.RowLaws.{all_read, all_mean}

-- ---- numbers in a range

pub ranged_is : (least most place number : ℕ) → least ≤ number → number ≤ most
    → ranged least most place (pos number) ≡ Ok number
ranged_is least most place number low high = rw (le-leb least number low, le-leb number most high) refl

range_read : (least most : ℕ) (env : Env) (form : BareTree) (number : ℕ) → IsRanged least most env form number
    → (f : FormTree) → bare_tree f ≡ form → ranged_at least most env f ≡ Ok number
unfolding ranged_at
range_read least most env form number (a_ranged is low high) f h =
    rw (number_read env f (pos number) (literal_read env form (bound.Number (pos number)) is f h))
    (ranged_is least most (start_of f) number low high)

pub ranged_means : (least most place : ℕ) (env : Env) (form : BareTree) (number : ℤ) → NumberIs env form number
    → OkGood (IsRanged least most env form) (ranged least most place number)
ranged_means least most place env form (pos number) means =
    ok_if (IsRanged least most env form) _ _ _
    (λ is.
    let both = and_parts (int_le (pos least) (pos number)) (int_le (pos number) (pos most)) is in
    a_ranged means (leb-true least number both.0) (leb-true number most both.1))
    (λ _. tt)
ranged_means least most place env form (negsuc number) means = tt

range_means : (least most : ℕ) (env : Env) (f : FormTree)
    → OkGood (IsRanged least most env (bare_tree f)) (ranged_at least most env f)
unfolding ranged_at
range_means least most env f =
    bind_good (NumberIs env (bare_tree f)) (IsRanged least most env (bare_tree f)) (number_at env f)
    (ranged least most (start_of f)) (number_means env f)
    (λ number is. ranged_means least most (start_of f) env (bare_tree f) number is)

pub ranges_are_read : RangesAreRead
ranges_are_read least most env f number = (
  (λ is. range_read least most env (bare_tree f) number is f refl),
  (λ is. ok_read (IsRanged least most env (bare_tree f)) (ranged_at least most env f) number is
      (range_means least most env f)),
)

-- ---- groups

abbrev pub VectorIs : BareTree → FormTrees → Type 0
VectorIs form forms = form ≡ vector_of (bare_trees forms)

abbrev pub MapIs : BareTree → FormTrees → Type 0
MapIs form forms = form ≡ map_of (bare_trees forms)

vector_in_means : (env : Env) (form : BareTree) (given : Argument) → Meaning env form given
    → SomeGood (VectorIs form) (vector_in given)
vector_in_means env form (Forms Square forms) is = is
vector_in_means env form given is = tt

map_in_means : (env : Env) (form : BareTree) (given : Argument) → Meaning env form given
    → SomeGood (MapIs form) (map_in given)
map_in_means env form (Forms Curly forms) is = is
map_in_means env form given is = tt

pub vector_means : (env : Env) (f : FormTree) → OkGood (VectorIs (bare_tree f)) (vector_at env f)
unfolding vector_at
vector_means env f = taken_means (VectorIs (bare_tree f)) vector_in env f (vector_in_means env (bare_tree f))

pub map_means : (env : Env) (f : FormTree) → OkGood (MapIs (bare_tree f)) (map_at env f)
unfolding map_at
map_means env f = taken_means (MapIs (bare_tree f)) map_in env f (map_in_means env (bare_tree f))

-- ---- texts

texts_group : (env : Env) (forms : FormTrees) (start last : ℕ)
    → texts_at env (Group Square forms start last) ≡ each (onto (text_at env)) [] forms
unfolding texts_at argument_of
texts_group env forms start last = refl

text_alone_read : (env : Env) (f : FormTree) (text : List ℕ) → argument_of env f ≡ Text text
    → texts_at env f ≡ Ok (text ∷ [])
unfolding texts_at
text_alone_read env f text is = rw is refl

texts_read : (env : Env) (form : BareTree) (texts : List (List ℕ)) → IsTexts env form texts → (f : FormTree)
    → bare_tree f ≡ form → texts_at env f ≡ Ok texts
texts_read env form _ (text_alone {text = text} is) f h =
    text_alone_read env f text (literal_read env form (bound.Text text) is f h)
texts_read env _ texts (text_vector {forms = row} are) f h =
    let group = group_of f Square row h in
    ap (texts_at env) group.is ∙ texts_group env group.forms group.start group.last
    ∙ all_read (TextIs env) (text_at env) (λ g text is. (texts_are_read env g text).0 is) group.forms texts
    (subst (λ (ts : BareTrees). AreTexts env ts texts) (sym group.forms_are) are)

text_rows : (env : Env) (forms : FormTrees)
    → OkGood (IsTexts env (vector_of (bare_trees forms))) (each (onto (text_at env)) [] forms)
text_rows env forms =
    weaker (AreTexts env (bare_trees forms)) (IsTexts env (vector_of (bare_trees forms)))
    (each (onto (text_at env)) [] forms) (λ texts are. text_vector are)
    (all_mean (TextIs env) (text_at env) (text_means env) forms)

texts_by_means : (env : Env) (f : FormTree) (form : BareTree) (given : Argument) → Meaning env form given
    → OkGood (IsTexts env form) (texts_by env f given)
texts_by_means env f form (Text text) means = text_alone means
texts_by_means env f form (Forms Square forms) within =
    subst (λ (t : BareTree). OkGood (IsTexts env t) (each (onto (text_at env)) [] forms)) (sym within)
    (text_rows env forms)
texts_by_means env f form given means = tt

texts_at_means : (env : Env) (f : FormTree) → OkGood (IsTexts env (bare_tree f)) (texts_at env f)
unfolding texts_at
texts_at_means env f = texts_by_means env f (bare_tree f) (argument_of env f) (meaning env f)

pub text_vectors_are_read : TextVectorsAreRead
text_vectors_are_read env f texts = (
  (λ is. texts_read env (bare_tree f) texts is f refl),
  (λ is. ok_read (IsTexts env (bare_tree f)) (texts_at env f) texts is (texts_at_means env f)),
)

-- ---- fields

fields_group : (env : Env) (forms : FormTrees) (start last : ℕ)
    → fields_at env (Group Square forms start last) ≡ (each (onto (field_at env)) [] forms >>= some_of start)
unfolding fields_at argument_of
fields_group env forms start last = refl

field_alone_read : (env : Env) (f : FormTree) (name : List ℕ) (one : Field) → argument_of env f ≡ Keyword name
    → field_at env f ≡ Ok one → fields_at env f ≡ Ok (one ∷ [])
unfolding fields_at
field_alone_read env f name one at is = rw (at, is) refl

fields_read : (env : Env) (form : BareTree) (fields : List Field) → IsFields env form fields → (f : FormTree)
    → bare_tree f ≡ form → fields_at env f ≡ Ok fields
fields_read env form _ (field_alone {field = one} (a_field {name = name} literal is)) f h =
    let at = literal_read env form (bound.Keyword name) literal f h in
    field_alone_read env f name one at (keyword_field env f name one at is)
fields_read env _ _ (field_vector {forms = row} {field = one} {fields = fields} are) f h =
    let group = group_of f Square row h in
    ap (fields_at env) group.is ∙ fields_group env group.forms group.start group.last
    ∙ ap (λ (read : Result (List Field) Fault). read >>= some_of group.start)
    (all_read (IsField env) (field_at env) (λ g field is. (fields_are_read env g field).0 is) group.forms (one ∷ fields)
    (subst (λ (ts : BareTrees). AreFields env ts (one ∷ fields)) (sym group.forms_are) are))

some_means : (env : Env) (row : BareTrees) (place : ℕ) (all : List Field) → AreFields env row all
    → OkGood (IsFields env (vector_of row)) (some_of place all)
some_means env row place [] are = tt
some_means env row place (one ∷ all) are = field_vector are

field_rows : (env : Env) (place : ℕ) (forms : FormTrees)
    → OkGood (IsFields env (vector_of (bare_trees forms))) (each (onto (field_at env)) [] forms >>= some_of place)
field_rows env place forms =
    bind_good (AreFields env (bare_trees forms)) (IsFields env (vector_of (bare_trees forms)))
    (each (onto (field_at env)) [] forms) (some_of place)
    (all_mean (IsField env) (field_at env) (field_means env) forms)
    (some_means env (bare_trees forms) place)

field_only : (env : Env) (f : FormTree) → OkGood (IsFields env (bare_tree f)) (field_at env f >>= λ one. Ok (one ∷ []))
field_only env f =
    bind_good (IsField env (bare_tree f)) (IsFields env (bare_tree f)) (field_at env f) (λ one. Ok (one ∷ []))
    (field_means env f) (λ one is. field_alone is)

fields_by_means : (env : Env) (f : FormTree) (given : Argument) → Meaning env (bare_tree f) given
    → OkGood (IsFields env (bare_tree f)) (fields_by env f given)
fields_by_means env f (Forms Square forms) within =
    subst (λ (t : BareTree). OkGood (IsFields env t) (each (onto (field_at env)) [] forms >>= some_of (start_of f)))
    (sym within) (field_rows env (start_of f) forms)
fields_by_means env f given within = field_only env f

fields_at_means : (env : Env) (f : FormTree) → OkGood (IsFields env (bare_tree f)) (fields_at env f)
unfolding fields_at
fields_at_means env f = fields_by_means env f (argument_of env f) (meaning env f)

pub field_vectors_are_read : FieldVectorsAreRead
field_vectors_are_read env f fields = (
  (λ is. fields_read env (bare_tree f) fields is f refl),
  (λ is. ok_read (IsFields env (bare_tree f)) (fields_at env f) fields is (fields_at_means env f)),
)
