-- The table of the kinds of streams: each word with the arguments that follow it, and the kind that they make.
use Rattle.std.specs.Prelude.{◌≡◌, ℕ, suc, Bool, true, false, if◌then◌else◌, List, [], ◌∷◌, codes, Option, Some, None}
use Rattle.std.specs.Prelude.{Result, Ok}
use Rattle.ev_types.specs.declared.field.Field.TheVariants.{State, Metric}
use Rattle.ev_types.specs.declared.settings.Set.{Set}
use Rattle.ev_types.specs.declared.value.Value.TheVariants as value
use Rattle.pred_eval.specs.declared.rule.Ordering.TheVariants.{Less, Greater}
use Rattle.pred_eval.specs.Tree.{Tree, Trees, All, Tagged, Equal, Order}
use Rattle.pred_eval.specs.Tree as pred
use Rattle.sexp_read.specs.declared.piece.Atom.TheVariants as atom
use Rattle.sexp_read.specs.declared.piece.Bracket.TheVariants.{Curly}
use Rattle.sexp_read.specs.Tree.{FormTree, FormTrees, Group}
use Rattle.sexp_read.specs.Written.{BareTree, BareTrees, Leaf, Branch, and_trees}
use Rattle.stream_plan.specs.declared.kinds.TheConstants.{MAX_SECS}
use Rattle.stream_plan.specs.Tree.{KindTree}
use Rattle.stream_plan.specs.Tree as kind
use Rattle.config_terms.specs.declared.word.StreamWord.{StreamWord}
use Rattle.config_terms.specs.declared.word.StreamWord.TheVariants as word
use Rattle.config_terms.specs.Steps.{Fault, ◌>>=◌, nth, argument}
use Rattle.config_terms.specs.Arguments.{Env, Argument, bound_value, bound_argument, argument_of}
use Rattle.config_terms.specs.Arguments as given
use Rattle.config_streams.specs.Sorts.{Sort, ValueOf, IsA, read_as}
use Rattle.config_streams.specs.Sorts as a

-- ---- rows

-- what the next form may be
pub data Ahead : Type 0 where
  AMap : Ahead
  ANumber : Ahead

-- arguments in order: the kind follows from their values, and which arguments come may follow from what is ahead
pub data Row : Type 0 where
  gives : KindTree → Row
  takes : (sort : Sort) → (ValueOf sort → Row) → Row
  next_is : Ahead → Row → Row → Row

-- one argument, and two
abbrev one_of : (sort : Sort) → (ValueOf sort → KindTree) → Row
one_of sort make = takes sort (λ a. gives (make a))

abbrev two_of : (sort next : Sort) → (ValueOf sort → ValueOf next → KindTree) → Row
two_of sort next make = takes sort (λ a. takes next (λ b. gives (make a b)))

-- a map of sets, or one set
abbrev sets_of : (List Set → KindTree) → Row
sets_of make =
    next_is AMap (one_of a.Sets make) (takes a.OneField (λ field. one_of (a.SetTo field) (λ set. make (set ∷ []))))

-- one argument that may be left out
abbrev may_be : Ahead → (sort : Sort) → (Option (ValueOf sort) → KindTree) → Row
may_be ahead sort make = next_is ahead (one_of sort (λ a. make (Some a))) (gives (make None))

abbrev pub tag_rules : List (List ℕ) → Trees
tag_rules [] = pred.none
tag_rules (tag ∷ tags) = pred.also (Tagged tag) (tag_rules tags)

-- one tag represents itself
abbrev pub all_tagged : List (List ℕ) → Tree
all_tagged [] = All pred.none
all_tagged (tag ∷ []) = Tagged tag
all_tagged (tag ∷ second ∷ tags) = All (tag_rules (tag ∷ second ∷ tags))

abbrev pub expired_rule : Tree
expired_rule = Equal State (value.Text (codes "expired"))

-- below another `by` no seconds are in range
abbrev pub most_idle : Bool → ℕ
most_idle true = 0
most_idle false = MAX_SECS

abbrev or_one : Option ℕ → ℕ
or_one (Some secs) = secs
or_one None = 1

-- the truth value says whether the stream is below a `by`
unfoldable pub row_of : Bool → StreamWord → Row
row_of in_fork word.Index = gives kind.Index
row_of in_fork word.Notice = one_of a.Text kind.Notice
row_of in_fork word.Sdo = gives kind.Sdo
row_of in_fork word.Where = one_of a.Rule kind.Where
row_of in_fork word.With = sets_of kind.With
row_of in_fork word.Default = sets_of kind.Default
row_of in_fork word.Tag = one_of a.Texts kind.Tag
row_of in_fork word.By = takes a.Fields (λ fields. may_be AMap (a.Idle (most_idle in_fork)) (kind.By fields))
row_of in_fork word.Changed = takes a.OneField (λ field. may_be AMap a.Init (kind.Changed field))
row_of in_fork word.Runs = two_of a.Count a.OneField kind.Runs
row_of in_fork word.Throttle = two_of a.Count a.Secs kind.Throttle
row_of in_fork word.Rollup = two_of a.Count a.Secs kind.Rollup
row_of in_fork word.Batch = two_of a.Count a.Secs kind.Batch
row_of in_fork word.Stable = two_of a.Secs a.OneField kind.Stable
row_of in_fork word.Coalesce = may_be ANumber a.Secs (λ secs. kind.Coalesce (or_one secs))
row_of in_fork word.Smap = one_of a.FoldWord kind.Smap
row_of in_fork word.FixedEvent = one_of a.Count kind.FixedEvent
row_of in_fork word.MovingEvent = one_of a.Count kind.MovingEvent
row_of in_fork word.FixedTime = one_of a.Secs kind.FixedTime
row_of in_fork word.MovingTime = one_of a.Secs kind.MovingTime
row_of in_fork word.Expired = gives (kind.Where expired_rule)
row_of in_fork word.Tagged = one_of a.SomeTexts (λ tags. kind.Where (all_tagged tags))
row_of in_fork word.Over = one_of a.Number (λ number. kind.Where (Order Metric Greater number))
row_of in_fork word.Under = one_of a.Number (λ number. kind.Where (Order Metric Less number))

-- ---- what the next form is

abbrev pub is_number : Argument → Bool
is_number (given.Number number) = true
is_number _ = false

abbrev pub is_map : FormTree → Bool
is_map (Group Curly forms start last) = true
is_map _ = false

abbrev pub is_so : Ahead → Env → FormTree → Bool
is_so AMap env f = is_map f
is_so ANumber env f = is_number (argument_of env f)

abbrev pub is_ahead : Ahead → Env → Option FormTree → Bool
is_ahead ahead env None = false
is_ahead ahead env (Some f) = is_so ahead env f

-- the same of a form without its places
abbrev pub bare_ahead : Ahead → Env → BareTrees → Bool
bare_ahead AMap env (and_trees (Branch Curly entries) row) = true
bare_ahead ANumber env (and_trees (Leaf (atom.Number number)) row) = true
bare_ahead ANumber env (and_trees (Leaf (atom.Symbol name)) row) =
    is_number (bound_argument name (bound_value name env))
bare_ahead _ env row = false

-- ---- the grammar: the forms begin with arguments of the row, which make the kind, and these are left

pub data Matches : Env → Row → BareTrees → KindTree → BareTrees → Type 0 where
  made : {env : Env} {one : KindTree} {rest : BareTrees} → Matches env (gives one) rest one rest
  taken : {env : Env} {sort : Sort} {row : ValueOf sort → Row} {x : BareTree} {forms rest : BareTrees}
      {one : KindTree} → (value : ValueOf sort) → IsA sort env x value → Matches env (row value) forms one rest
      → Matches env (takes sort row) (and_trees x forms) one rest
  there : {env : Env} {ahead : Ahead} {row other : Row} {forms rest : BareTrees} {one : KindTree}
      → bare_ahead ahead env forms ≡ true → Matches env row forms one rest
      → Matches env (next_is ahead row other) forms one rest
  absent : {env : Env} {ahead : Ahead} {row other : Row} {forms rest : BareTrees} {one : KindTree}
      → bare_ahead ahead env forms ≡ false → Matches env other forms one rest
      → Matches env (next_is ahead row other) forms one rest

-- ---- what is read: the kind, and the number of its arguments

-- the argument of a number is read so
unfoldable pub read_argument : (sort : Sort) → Env → ℕ → ℕ → FormTrees → Result (ValueOf sort) Fault
read_argument sort env start n forms = argument start n forms >>= read_as sort env

-- the forms after `n` arguments are read by the row, in a list that starts at the place
abbrev pub read : Row → Env → ℕ → ℕ → FormTrees → Result (KindTree × ℕ) Fault
read (gives one) env start n forms = Ok (one, n)
read (takes sort row) env start n forms =
    read_argument sort env start n forms >>= λ value. read (row value) env start (suc n) forms
read (next_is ahead row other) env start n forms =
    if is_ahead ahead env (nth n forms) then read row env start n forms else read other env start n forms
