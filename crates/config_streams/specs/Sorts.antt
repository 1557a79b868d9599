-- The sorts of the arguments of streams: the values of each sort, which form represents which value, and what is read.
use Rattle.std.specs.Prelude.{◌≡◌, ℕ, ℤ, List, [], ◌∷◌, Option, Some, None, Result, Ok, Err}
use Rattle.ev_types.specs.declared.field.Field.{Field}
use Rattle.ev_types.specs.declared.settings.Fold.{Fold}
use Rattle.ev_types.specs.declared.settings.Set.{Set}
use Rattle.ev_types.specs.declared.value.Value.{Value}
use Rattle.pred_eval.specs.Tree.{Tree}
use Rattle.sexp_read.specs.declared.piece.Atom.TheVariants as form
use Rattle.sexp_read.specs.Tree.{FormTree, FormTrees, Single}
use Rattle.sexp_read.specs.Written.{BareTree, BareTrees}
use Rattle.stream_plan.specs.declared.kinds.TheConstants.{MAX_COUNT, MAX_SECS}
use Rattle.config_terms.specs.declared.binding.Bound.TheVariants as bound
use Rattle.config_terms.specs.Steps.{Fault, ◌>>=◌, start_of}
use Rattle.config_terms.specs.Words.{fold_text, fold_word, init_text}
use Rattle.config_terms.specs.Arguments.{Env, argument_of, misfit, text_at, number_at, value_at, field_at, ranged_at}
use Rattle.config_terms.specs.Arguments.{texts_at, fields_at, some_of, set_at, sets_from, map_at, one_entry, idle_in}
use Rattle.config_terms.specs.Rules.{rule_at}
use Rattle.config_terms.specs.Grammar.{symbol, IsLiteral, IsPredicate}
use Rattle.config_terms.specs.Terms.{map_of, IsRanged, IsField, IsTexts, IsFields, IsSet, AreSets, IsInit, IsIdle}

pub data Sort : Type 0 where
  Count : Sort
  Secs : Sort
  Number : Sort
  Text : Sort
  Texts : Sort
  SomeTexts : Sort
  OneField : Sort
  Fields : Sort
  Rule : Sort
  -- a value that fits the field
  SetTo : Field → Sort
  Sets : Sort
  Init : Sort
  -- seconds, up to the most
  Idle : ℕ → Sort
  FoldWord : Sort

abbrev pub ValueOf : Sort → Type 0
ValueOf Count = ℕ
ValueOf Secs = ℕ
ValueOf Number = ℤ
ValueOf Text = List ℕ
ValueOf Texts = List (List ℕ)
ValueOf SomeTexts = List (List ℕ)
ValueOf OneField = Field
ValueOf Fields = List Field
ValueOf Rule = Tree
ValueOf (SetTo field) = Set
ValueOf Sets = List Set
ValueOf Init = Value
ValueOf (Idle most) = ℕ
ValueOf FoldWord = Fold

-- ---- which forms represent which values

-- a word, whatever it is bound to
abbrev pub IsFold : BareTree → Fold → Type 0
IsFold form fold = form ≡ symbol (fold_text fold)

-- one text at least
pub data IsSomeTexts : Env → BareTree → List (List ℕ) → Type 0 where
  some_texts : {env : Env} {x : BareTree} {text : List ℕ} {texts : List (List ℕ)} → IsTexts env x (text ∷ texts)
      → IsSomeTexts env x (text ∷ texts)

-- a map of such entries
pub data IsMapOf {A : Type 0} (Are : Env → BareTrees → A → Type 0) : Env → BareTree → A → Type 0 where
  a_map : {env : Env} {entries : BareTrees} {a : A} → Are env entries a → IsMapOf Are env (map_of entries) a

abbrev pub IsA : (sort : Sort) → Env → BareTree → ValueOf sort → Type 0
IsA Count env x count = IsRanged 1 MAX_COUNT env x count
IsA Secs env x secs = IsRanged 1 MAX_SECS env x secs
IsA Number env x number = IsLiteral env x (bound.Number number)
IsA Text env x text = IsLiteral env x (bound.Text text)
IsA Texts env x texts = IsTexts env x texts
IsA SomeTexts env x texts = IsSomeTexts env x texts
IsA OneField env x field = IsField env x field
IsA Fields env x fields = IsFields env x fields
IsA Rule env x rule = IsPredicate env x rule
IsA (SetTo field) env x set = IsSet env field x set
IsA Sets env x sets = IsMapOf AreSets env x sets
IsA Init env x held = IsMapOf IsInit env x held
IsA (Idle most) env x secs = IsMapOf (IsIdle most) env x secs
IsA FoldWord env x fold = IsFold x fold

-- ---- what is read

-- the words of folds are not looked up
abbrev pub fold_by : Env → FormTree → Option Fold → Result Fold Fault
fold_by env f (Some fold) = Ok fold
fold_by env f None = Err (start_of f, misfit (argument_of env f))

abbrev pub fold_named : FormTree → Option Fold
fold_named (Single (form.Symbol name) start last) = fold_word name
fold_named _ = None

unfoldable pub fold_at : Env → FormTree → Result Fold Fault
fold_at env f = fold_by env f (fold_named f)

unfoldable pub some_texts_at : Env → FormTree → Result (List (List ℕ)) Fault
some_texts_at env f = texts_at env f >>= some_of (start_of f)

-- a map, read from the place of the map
unfoldable pub map_as : {A : Type 0} → (ℕ → Env → FormTrees → Result A Fault) → Env → FormTree → Result A Fault
map_as read env f = map_at env f >>= read (start_of f) env

abbrev pub sets_in : ℕ → Env → FormTrees → Result (List Set) Fault
sets_in place env forms = sets_from place env [] forms

abbrev pub init_in : ℕ → Env → FormTrees → Result Value Fault
init_in place env forms = one_entry init_text value_at place env None forms

abbrev pub read_as : (sort : Sort) → Env → FormTree → Result (ValueOf sort) Fault
read_as Count env f = ranged_at 1 MAX_COUNT env f
read_as Secs env f = ranged_at 1 MAX_SECS env f
read_as Number env f = number_at env f
read_as Text env f = text_at env f
read_as Texts env f = texts_at env f
read_as SomeTexts env f = some_texts_at env f
read_as OneField env f = field_at env f
read_as Fields env f = fields_at env f
read_as Rule env f = rule_at env f
read_as (SetTo field) env f = set_at env field f
read_as Sets env f = map_as sets_in env f
read_as Init env f = map_as init_in env f
read_as (Idle most) env f = map_as (idle_in most) env f
read_as FoldWord env f = fold_at env f
