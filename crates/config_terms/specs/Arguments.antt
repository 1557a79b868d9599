-- The arguments of a form, and what fits there.
use Rattle.std.specs.Prelude.{ℕ, ℤ, pos, nat_abs, int_le, Bool, true, false, ◌&&◌, if◌then◌else◌, List, [], ◌∷◌, ◌++◌}
use Rattle.std.specs.Prelude.{Option, Some, None, reverse, Result, Ok, Err}
use Rattle.std.specs.List.{find, list_any}
use Rattle.std.specs.Option.{option_map, is_some}
use Rattle.std.specs.Str.{bytes_eq}
use Rattle.ev_types.specs.declared.field.Field.{Field}
use Rattle.ev_types.specs.declared.settings.Set.{Set}
use Rattle.ev_types.specs.declared.value.Value.{Value}
use Rattle.ev_types.specs.declared.value.Value.TheVariants as value
use Rattle.sexp_read.specs.declared.piece.Bracket.{Bracket}
use Rattle.sexp_read.specs.declared.piece.Bracket.TheVariants.{Round, Square, Curly}
use Rattle.sexp_read.specs.Tree.{FormTree, FormTrees, Single, Group, none, also}
use Rattle.sexp_read.specs.declared.piece.Atom.TheVariants as form
use Rattle.ev_types.specs.Set.{fits}
use Rattle.ev_types.specs.declared.field.Field.TheVariants as field
use Rattle.config_terms.specs.declared.binding.Binding.{Binding}
use Rattle.config_terms.specs.declared.binding.Bound.{Bound}
use Rattle.config_terms.specs.declared.binding.Bound.TheVariants as bound
use Rattle.config_terms.specs.declared.fault.ConfigWhy.{ConfigWhy}
use Rattle.config_terms.specs.declared.fault.ConfigWhy.TheVariants as why
use Rattle.config_terms.specs.Steps.{Fault, ◌>>=◌, start_of, pair_in, each, onto}
use Rattle.ev_types.specs.Names.{named_field}
use Rattle.config_terms.specs.Words.{nil_text, idle_text, same_field}

-- names and their values, the innermost last
abbrev pub Env : Type 0
Env = List Binding

-- what a name is bound to: of bindings of one name the last one holds
abbrev pub bound_value : List ℕ → Env → Option Bound
bound_value name env =
    option_map (λ binding. binding.value) (find (λ binding. bytes_eq binding.name name) (reverse env))

-- an argument, where a bound symbol is its value
pub data Argument : Type 0 where
  Text : List ℕ → Argument
  Pattern : List ℕ → Argument
  Number : ℤ → Argument
  Keyword : List ℕ → Argument
  Index : Argument
  Unbound : List ℕ → Argument
  Forms : Bracket → FormTrees → Argument

abbrev pub bound_argument : List ℕ → Option Bound → Argument
bound_argument name None = Unbound name
bound_argument name (Some (bound.Text text)) = Text text
bound_argument name (Some (bound.Pattern text)) = Pattern text
bound_argument name (Some (bound.Number number)) = Number number
bound_argument name (Some (bound.Keyword key)) = Keyword key
bound_argument name (Some bound.Index) = Index

unfoldable pub argument_of : Env → FormTree → Argument
argument_of env (Single (form.Text text) start last) = Text text
argument_of env (Single (form.Pattern text) start last) = Pattern text
argument_of env (Single (form.Number number) start last) = Number number
argument_of env (Single (form.Keyword key) start last) = Keyword key
argument_of env (Single (form.Symbol name) start last) = bound_argument name (bound_value name env)
argument_of env (Group bracket forms start last) = Forms bracket forms

-- for what an argument is refused where it does not fit: a symbol that is bound to nothing has no meaning there, and a
-- list is a form that is not allowed there, as is the stream that a symbol is bound to
abbrev pub misfit : Argument → ConfigWhy
misfit (Text text) = why.Arguments
misfit (Pattern text) = why.Arguments
misfit (Number number) = why.Arguments
misfit (Keyword key) = why.Arguments
misfit Index = why.Form
misfit (Unbound name) = why.Name
misfit (Forms Round forms) = why.Form
misfit (Forms Square forms) = why.Arguments
misfit (Forms Curly forms) = why.Arguments

abbrev pub fitting : {A : Type 0} → ℕ → Argument → Option A → Result A Fault
fitting place given None = Err (place, misfit given)
fitting place given (Some a) = Ok a

-- what the form is to a test of arguments
abbrev pub taken : {A : Type 0} → (Argument → Option A) → Env → FormTree → Result A Fault
taken test env f = fitting (start_of f) (argument_of env f) (test (argument_of env f))

-- ---- texts, keywords, fields and values

abbrev pub text_in : Argument → Option (List ℕ)
text_in (Text text) = Some text
text_in _ = None

abbrev pub keyword_in : Argument → Option (List ℕ)
keyword_in (Keyword key) = Some key
keyword_in _ = None

abbrev pub field_in : Argument → Option Field
field_in (Keyword key) = named_field key
field_in _ = None

abbrev pub number_in : Argument → Option ℤ
number_in (Number number) = Some number
number_in _ = None

-- a text, a number or `nil`
abbrev pub value_in : Argument → Option Value
value_in (Text text) = Some (value.Text text)
value_in (Number number) = Some (value.Number number)
value_in (Unbound name) = if bytes_eq name nil_text then Some value.Nil else None
value_in _ = None

unfoldable pub text_at : Env → FormTree → Result (List ℕ) Fault
text_at = taken text_in

unfoldable pub keyword_at : Env → FormTree → Result (List ℕ) Fault
keyword_at = taken keyword_in

unfoldable pub field_at : Env → FormTree → Result Field Fault
field_at = taken field_in

unfoldable pub number_at : Env → FormTree → Result ℤ Fault
number_at = taken number_in

unfoldable pub value_at : Env → FormTree → Result Value Fault
value_at = taken value_in

-- ---- numbers in their ranges

abbrev pub ranged : ℕ → ℕ → ℕ → ℤ → Result ℕ Fault
ranged least most place number =
    if int_le (pos least) number && int_le number (pos most) then Ok (nat_abs number) else Err (place, why.Range)

unfoldable pub ranged_at : ℕ → ℕ → Env → FormTree → Result ℕ Fault
ranged_at least most env f = number_at env f >>= ranged least most (start_of f)

-- ---- vectors and maps

abbrev pub vector_in : Argument → Option FormTrees
vector_in (Forms Square forms) = Some forms
vector_in _ = None

abbrev pub map_in : Argument → Option FormTrees
map_in (Forms Curly forms) = Some forms
map_in _ = None

unfoldable pub vector_at : Env → FormTree → Result FormTrees Fault
vector_at = taken vector_in

unfoldable pub map_at : Env → FormTree → Result FormTrees Fault
map_at = taken map_in

-- where a form has to have others between its brackets
abbrev pub some_of : {A : Type 0} → ℕ → List A → Result (List A) Fault
some_of place [] = Err (place, why.Arguments)
some_of place (a ∷ all) = Ok (a ∷ all)

-- the texts of a vector, or one text
abbrev pub texts_by : Env → FormTree → Argument → Result (List (List ℕ)) Fault
texts_by env f (Text text) = Ok (text ∷ [])
texts_by env f (Forms Square forms) = each (onto (text_at env)) [] forms
texts_by env f given = Err (start_of f, misfit given)

unfoldable pub texts_at : Env → FormTree → Result (List (List ℕ)) Fault
texts_at env f = texts_by env f (argument_of env f)

-- the fields of a vector, of which there is one at least, or one field
abbrev pub some_fields : Env → ℕ → FormTrees → Result (List Field) Fault
some_fields env place forms = each (onto (field_at env)) [] forms >>= some_of place

abbrev pub one_field : Env → FormTree → Result (List Field) Fault
one_field env f = field_at env f >>= λ one. Ok (one ∷ [])

abbrev pub fields_by : Env → FormTree → Argument → Result (List Field) Fault
fields_by env f (Forms Square forms) = some_fields env (start_of f) forms
fields_by env f given = one_field env f

unfoldable pub fields_at : Env → FormTree → Result (List Field) Fault
fields_at env f = fields_by env f (argument_of env f)

-- ---- sets

abbrev pub is_number : Value → Bool
is_number (value.Number number) = true
is_number _ = false

abbrev pub is_ttl_field : Field → Bool
is_ttl_field field.Ttl = true
is_ttl_field _ = false

-- a value that a field is set to has to fit it; a number that fits no ttl is out of its range
abbrev pub fitted : ℕ → Field → Value → Result Set Fault
fitted place one given =
    if fits one given then Ok (record { field = one; value = given })
    else (if is_ttl_field one && is_number given then Err (place, why.Range)
    else Err (place, why.Arguments))

unfoldable pub set_at : Env → Field → FormTree → Result Set Fault
set_at env one f = value_at env f >>= fitted (start_of f) one

-- no field is set twice in one map
abbrev pub has_field : Field → List Set → Bool
has_field one = list_any (λ set. same_field set.field one)

abbrev pub new_field : ℕ → List Set → Field → Result Field Fault
new_field place sets one = if has_field one sets then Err (place, why.Twice) else Ok one

unfoldable pub new_field_at : Env → List Set → FormTree → Result Field Fault
new_field_at env sets f = field_at env f >>= new_field (start_of f) sets

-- fields and values alternately, in a map that starts at the place
unfoldable pub sets_from : ℕ → Env → List Set → FormTrees → Result (List Set) Fault
sets_from place env sets none = Ok sets
sets_from place env sets (also key none) = new_field_at env sets key >>= λ one. Err (place, why.Arguments)
sets_from place env sets (also key (also f forms)) =
    new_field_at env sets key >>= λ one.
    set_at env one f >>= λ set.
    sets_from place env (sets ++ set ∷ []) forms

-- ---- maps with one key

-- a map with the one key: another keyword is refused, and the key where it comes again
abbrev pub only_key : List ℕ → Bool → ℕ → List ℕ → Result (Unit {0}) Fault
only_key wanted twice place name =
    if bytes_eq name wanted then (if twice then Err (place, why.Twice) else Ok tt) else Err (place, why.Arguments)

unfoldable pub only_key_at : List ℕ → Bool → Env → FormTree → Result (Unit {0}) Fault
only_key_at wanted twice env f = keyword_at env f >>= only_key wanted twice (start_of f)

abbrev pub held : {A : Type 0} → ℕ → Option A → Result A Fault
held place None = Err (place, why.Arguments)
held place (Some a) = Ok a

-- keys and values alternately, of a map that starts at the place: what was found, and the rest
unfoldable pub one_entry : {A : Type 0} → List ℕ → (Env → FormTree → Result A Fault) → ℕ → Env → Option A → FormTrees
    → Result A Fault
one_entry wanted read place env found none = held place found
one_entry wanted read place env found (also key none) =
    only_key_at wanted (is_some found) env key >>= λ known. Err (place, why.Arguments)
one_entry wanted read place env found (also key (also f forms)) =
    only_key_at wanted (is_some found) env key >>= λ known.
    read env f >>= λ a.
    one_entry wanted read place env (Some a) forms

-- ---- the map of a `by`

abbrev pub is_idle_key : Argument → Bool
is_idle_key (Keyword key) = bytes_eq key idle_text
is_idle_key _ = false

abbrev pub idle_number : ℕ → ℕ → ℕ → Argument → Result ℕ Fault
idle_number most place start (Number number) = ranged 1 most start number
idle_number most place start given = Err (place, why.Arguments)

abbrev pub idle_by : ℕ → ℕ → Env → Option (FormTree × FormTree) → Result ℕ Fault
idle_by most place env None = Err (place, why.Arguments)
idle_by most place env (Some entry) =
    if is_idle_key (argument_of env entry.0) then idle_number most place (start_of entry.1) (argument_of env entry.1)
    else Err (place, why.Arguments)

-- In a map that starts at the place, `:idle` and a number of seconds up to the most. Any other map is refused as a
-- whole, at its start, and a number outside the range at its own.
unfoldable pub idle_in : ℕ → ℕ → Env → FormTrees → Result ℕ Fault
idle_in most place env forms = idle_by most place env (pair_in forms)
