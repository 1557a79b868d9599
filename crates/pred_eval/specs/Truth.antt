-- Whether an event meets a rule.
use Rattle.std.specs.Prelude.{ℕ, ℤ, Bool, true, false, not, ◌&&◌, ◌||◌, int_lt, int_le, List, [], ◌∷◌, ◌++◌, Option}
use Rattle.std.specs.Prelude.{Some, None}
use Rattle.ev_types.specs.declared.event.Event.{Event}
use Rattle.ev_types.specs.Field.{field_value}
use Rattle.ev_types.specs.Set.{has_text}
use Rattle.ev_types.specs.Value.{same_value, number_of, text_of}
use Rattle.pred_eval.specs.declared.rule.Ordering.{Ordering}
use Rattle.pred_eval.specs.declared.rule.Ordering.TheVariants.{Less, LessEqual, Greater, GreaterEqual}
use Rattle.pred_eval.specs.Tree.{Tree, Trees, Always, Never, Not, All, Any, Tagged, Equal, Order, Wild, Search, none}
use Rattle.pred_eval.specs.Tree.{also}
use Rattle.pred_eval.specs.Wild.{is_wild}
use Rattle.pred_eval.specs.Search.{finds}

-- the first number compares in this way with the second
abbrev pub is_ordered : Ordering → ℤ → ℤ → Bool
is_ordered Less a b = int_lt a b
is_ordered LessEqual a b = int_le a b
is_ordered Greater a b = int_lt b a
is_ordered GreaterEqual a b = int_le b a

-- there is a number, and it compares in this way with this one
abbrev pub is_in_order : Ordering → ℤ → Option ℤ → Bool
is_in_order order number None = false
is_in_order order number (Some value) = is_ordered order value number

-- there is a text, and it passes the test
abbrev pub is_text_with : (List ℕ → Bool) → Option (List ℕ) → Bool
is_text_with test None = false
is_text_with test (Some text) = test text

abbrev mutual
  pub holds : Tree → Event → Bool
  holds Always event = true
  holds Never event = false
  holds (Not rule) event = not (holds rule event)
  holds (All rules) event = all_hold rules event
  holds (Any rules) event = any_holds rules event
  holds (Tagged tag) event = has_text tag event.tags
  holds (Equal field value) event = same_value (field_value event field) value
  holds (Order field order number) event = is_in_order order number (number_of (field_value event field))
  holds (Wild field pattern) event = is_text_with (is_wild pattern) (text_of (field_value event field))
  holds (Search field pattern) event = is_text_with (finds pattern) (text_of (field_value event field))

  pub all_hold : Trees → Event → Bool
  all_hold none event = true
  all_hold (also rule rules) event = holds rule event && all_hold rules event

  pub any_holds : Trees → Event → Bool
  any_holds none event = false
  any_holds (also rule rules) event = holds rule event || any_holds rules event

-- the texts of the regular expressions of a rule, in the order in which they are written
abbrev mutual
  pub searches : Tree → List (List ℕ)
  searches Always = []
  searches Never = []
  searches (Not rule) = searches rule
  searches (All rules) = searches_of rules
  searches (Any rules) = searches_of rules
  searches (Tagged tag) = []
  searches (Equal field value) = []
  searches (Order field order number) = []
  searches (Wild field pattern) = []
  searches (Search field pattern) = pattern ∷ []

  pub searches_of : Trees → List (List ℕ)
  searches_of none = []
  searches_of (also rule rules) = searches rule ++ searches_of rules
