-- The grammar of what has a place among arguments: texts, numbers, values, fields, sets, and vectors and maps of these.
use Rattle.std.specs.Prelude.{◌≡◌, ◌≢◌, ◌↔◌, ℕ, ℤ, pos, ◌≤◌, true, List, [], ◌∷◌, codes, None, Some, Ok}
use Rattle.ev_types.specs.declared.field.Field.{Field}
use Rattle.ev_types.specs.declared.settings.Set.{Set}
use Rattle.ev_types.specs.declared.value.Value.{Value}
use Rattle.ev_types.specs.Names.{named_field}
use Rattle.ev_types.specs.Set.{fits}
use Rattle.sexp_read.specs.declared.piece.Bracket.TheVariants.{Square, Curly}
use Rattle.sexp_read.specs.Tree.{FormTree, FormTrees}
use Rattle.sexp_read.specs.Written.{BareTree, BareTrees, Branch, no_trees, and_trees, bare_tree, bare_trees, listed}
use Rattle.config_terms.specs.declared.binding.Bound.TheVariants as bound
use Rattle.config_terms.specs.Words.{init_text}
use Rattle.config_terms.specs.Arguments.{Env, text_at, number_at, value_at, field_at, ranged_at, texts_at, fields_at}
use Rattle.config_terms.specs.Arguments.{set_at, sets_from, one_entry, idle_in}
use Rattle.config_terms.specs.Grammar.{IsLiteral, IsValue}

abbrev pub vector_of : BareTrees → BareTree
vector_of forms = Branch Square forms

abbrev pub map_of : BareTrees → BareTree
map_of forms = Branch Curly forms

-- ---- numbers and fields

-- a number from the least to the most
pub data IsRanged : ℕ → ℕ → Env → BareTree → ℕ → Type 0 where
  a_ranged : {least most : ℕ} {env : Env} {form : BareTree} {number : ℕ}
      → IsLiteral env form (bound.Number (pos number)) → least ≤ number → number ≤ most
      → IsRanged least most env form number

-- a field is a keyword, or a name that is bound to one, whose name means the field
pub data IsField : Env → BareTree → Field → Type 0 where
  a_field : {env : Env} {form : BareTree} {name : List ℕ} {field : Field} → IsLiteral env form (bound.Keyword name)
      → named_field name ≡ Some field → IsField env form field

-- ---- vectors

-- each form represents the value in its place in the list
pub data AreEach {A : Type 0} (Is : BareTree → A → Type 0) : BareTrees → List A → Type 0 where
  no_more : AreEach Is no_trees []
  one_more : {form : BareTree} {forms : BareTrees} {a : A} {all : List A} → Is form a → AreEach Is forms all
      → AreEach Is (and_trees form forms) (a ∷ all)

abbrev pub AreTexts : Env → BareTrees → List (List ℕ) → Type 0
AreTexts env = AreEach (λ form text. IsLiteral env form (bound.Text text))

-- a text, or a vector of any number of texts
pub data IsTexts : Env → BareTree → List (List ℕ) → Type 0 where
  text_alone : {env : Env} {form : BareTree} {text : List ℕ} → IsLiteral env form (bound.Text text)
      → IsTexts env form (text ∷ [])
  text_vector : {env : Env} {forms : BareTrees} {texts : List (List ℕ)} → AreTexts env forms texts
      → IsTexts env (vector_of forms) texts

abbrev pub AreFields : Env → BareTrees → List Field → Type 0
AreFields env = AreEach (IsField env)

-- a field, or a vector of one field at least
pub data IsFields : Env → BareTree → List Field → Type 0 where
  field_alone : {env : Env} {form : BareTree} {field : Field} → IsField env form field → IsFields env form (field ∷ [])
  field_vector : {env : Env} {forms : BareTrees} {field : Field} {fields : List Field}
      → AreFields env forms (field ∷ fields) → IsFields env (vector_of forms) (field ∷ fields)

-- ---- maps

-- a set of the field to a value that it takes
pub data IsSet : Env → Field → BareTree → Set → Type 0 where
  a_set : {env : Env} {v : BareTree} {one : Field} {held : Value} → IsValue env v held → fits one held ≡ true
      → IsSet env one v (record { field = one; value = held })

-- none of the sets is of the field
abbrev pub IsUnset : Field → List Set → Type 0
IsUnset one [] = Unit {0}
IsUnset one (set ∷ sets) = (set.field ≢ one) × IsUnset one sets

-- fields and values alternately, each field once
pub data AreSets : Env → BareTrees → List Set → Type 0 where
  no_sets : {env : Env} → AreSets env no_trees []
  more_sets : {env : Env} {f v : BareTree} {forms : BareTrees} {one : Field} {set : Set} {sets : List Set}
      → IsField env f one → IsSet env one v set → AreSets env forms sets → IsUnset one sets
      → AreSets env (and_trees f (and_trees v forms)) (set ∷ sets)

-- the one key, and what follows it
pub data IsOnly {A : Type 0} (wanted : List ℕ) (Is : Env → BareTree → A → Type 0) : Env → BareTrees → A → Type 0 where
  only : {env : Env} {key v : BareTree} {a : A} → IsLiteral env key (bound.Keyword wanted) → Is env v a
      → IsOnly wanted Is env (listed (key ∷ v ∷ [])) a

-- `:init v`
abbrev pub IsInit : Env → BareTrees → Value → Type 0
IsInit = IsOnly (codes "init") IsValue

-- `:idle n`, of a number up to the most
abbrev pub IsIdle : ℕ → Env → BareTrees → ℕ → Type 0
IsIdle most = IsOnly (codes "idle") (IsRanged 1 most)

-- ---- a form is read as each of these exactly where it represents this one

abbrev pub TextsAreRead : Type 0
TextsAreRead = (env : Env) (form : FormTree) (text : List ℕ)
    → IsLiteral env (bare_tree form) (bound.Text text) ↔ (text_at env form ≡ Ok text)

abbrev pub NumbersAreRead : Type 0
NumbersAreRead = (env : Env) (form : FormTree) (number : ℤ)
    → IsLiteral env (bare_tree form) (bound.Number number) ↔ (number_at env form ≡ Ok number)

abbrev pub ValuesAreRead : Type 0
ValuesAreRead =
    (env : Env) (form : FormTree) (held : Value) → IsValue env (bare_tree form) held ↔ (value_at env form ≡ Ok held)

abbrev pub FieldsAreRead : Type 0
FieldsAreRead =
    (env : Env) (form : FormTree) (field : Field) → IsField env (bare_tree form) field ↔ (field_at env form ≡ Ok field)

abbrev pub RangesAreRead : Type 0
RangesAreRead = (least most : ℕ) (env : Env) (form : FormTree) (number : ℕ)
    → IsRanged least most env (bare_tree form) number ↔ (ranged_at least most env form ≡ Ok number)

abbrev pub TextVectorsAreRead : Type 0
TextVectorsAreRead = (env : Env) (form : FormTree) (texts : List (List ℕ))
    → IsTexts env (bare_tree form) texts ↔ (texts_at env form ≡ Ok texts)

abbrev pub FieldVectorsAreRead : Type 0
FieldVectorsAreRead = (env : Env) (form : FormTree) (fields : List Field)
    → IsFields env (bare_tree form) fields ↔ (fields_at env form ≡ Ok fields)

abbrev pub SetsAreRead : Type 0
SetsAreRead = (env : Env) (one : Field) (form : FormTree) (set : Set)
    → IsSet env one (bare_tree form) set ↔ (set_at env one form ≡ Ok set)

abbrev pub SetMapsAreRead : Type 0
SetMapsAreRead = (env : Env) (place : ℕ) (forms : FormTrees) (sets : List Set)
    → AreSets env (bare_trees forms) sets ↔ (sets_from place env [] forms ≡ Ok sets)

abbrev pub InitsAreRead : Type 0
InitsAreRead = (env : Env) (place : ℕ) (forms : FormTrees) (held : Value)
    → IsInit env (bare_trees forms) held ↔ (one_entry init_text value_at place env None forms ≡ Ok held)

abbrev pub IdlesAreRead : Type 0
IdlesAreRead = (most : ℕ) (env : Env) (place : ℕ) (forms : FormTrees) (secs : ℕ)
    → IsIdle most env (bare_trees forms) secs ↔ (idle_in most place env forms ≡ Ok secs)
