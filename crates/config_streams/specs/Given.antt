-- What is read of the arguments that the code has.
use Rattle.std.specs.Prelude.{ℕ, Bool, List, [], ◌∷◌, Result, Ok}
use Rattle.ev_types.specs.declared.settings.Set.{Set}
use Rattle.sexp_read.specs.Tree.{form_trees}
use Rattle.stream_plan.specs.Tree.{KindTree, kind_tree}
use Rattle.stream_plan.specs.declared.plan.Kind.{Kind}
use Rattle.config_terms.specs.Steps.{Fault, ◌>>=◌, nth}
use Rattle.config_streams.specs.declared.given.Given.{Given}
use Rattle.config_streams.specs.Sorts.{Sort, ValueOf, OneField, SetTo}
use Rattle.config_streams.specs.Table.{Ahead, Row, read_argument, is_ahead, read}

abbrev pub value_in : Given → ℕ → (sort : Sort) → Result (ValueOf sort) Fault
value_in given n sort = read_argument sort given.env.now given.start n (form_trees given.forms.now)

abbrev pub ahead_in : Given → ℕ → Ahead → Bool
ahead_in given n ahead = is_ahead ahead given.env.now (nth n (form_trees given.forms.now))

abbrev pub one_set_in : Given → Result (List Set) Fault
one_set_in given =
    value_in given 0 OneField >>= λ field. value_in given 1 (SetTo field) >>= λ set. Ok (set ∷ [])

abbrev pub kind_in : Given → Row → Result (KindTree × ℕ) Fault
kind_in given row = read row given.env.now given.start 0 (form_trees given.forms.now)

abbrev pub made_as : Kind × ℕ → KindTree × ℕ
made_as found = (kind_tree found.0, found.1)
