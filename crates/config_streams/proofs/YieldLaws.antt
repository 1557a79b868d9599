-- What holds of each kind that a row makes, by what holds of its values.
use Rattle.sexp_read.specs.Written.{BareTree, BareTrees, and_trees}
use Rattle.stream_plan.specs.Tree.{KindTree}
use Rattle.config_terms.specs.Arguments.{Env}
use Rattle.config_streams.specs.Sorts.{Sort, ValueOf, IsA}
use Rattle.config_streams.specs.Table.{Row, gives, takes, next_is, Matches, made, taken, there, absent}

abbrev pub Yields : ((sort : Sort) → ValueOf sort → Type 0) → (KindTree → Type 0) → Row → Type 0
Yields Good P (gives one) = P one
Yields Good P (takes sort row) = (value : ValueOf sort) → Good sort value → Yields Good P (row value)
Yields Good P (next_is ahead row other) = Yields Good P row × Yields Good P other

-- each argument that is kept has a good value, and keeps what follows it
abbrev pub Keeps : Env → (BareTrees → Type 0) → ((sort : Sort) → ValueOf sort → Type 0) → Type 0
Keeps env Kept Good =
    (sort : Sort) (x : BareTree) (forms : BareTrees) (value : ValueOf sort) → IsA sort env x value
    → Kept (and_trees x forms) → Good sort value × Kept forms

pub yielded : (env : Env) (Kept : BareTrees → Type 0) (Good : (sort : Sort) → ValueOf sort → Type 0)
    (P : KindTree → Type 0) → Keeps env Kept Good
    → (row : Row) (forms : BareTrees) (one : KindTree) (rest : BareTrees) → Matches env row forms one rest → Kept forms
    → Yields Good P row → P one × Kept rest
yielded env Kept Good P keeps _ _ one rest made kept all = (all, kept)
yielded env Kept Good P keeps _ _ one rest
    (taken {sort = sort} {row = row} {x = x} {forms = forms} value is matched) kept all =
    let good = keeps sort x forms value is kept in
    yielded env Kept Good P keeps (row value) forms one rest matched good.1 (all value good.0)
yielded env Kept Good P keeps _ forms one rest (there {row = row} is matched) kept all =
    yielded env Kept Good P keeps row forms one rest matched kept all.0
yielded env Kept Good P keeps _ forms one rest (absent {other = other} is matched) kept all =
    yielded env Kept Good P keeps other forms one rest matched kept all.1
