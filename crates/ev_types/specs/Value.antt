-- The value of a field: nil, a number or a text.
use Rattle.std.specs.Prelude.{◌≡◌, ◌↔◌, IsTrue, ℕ, ℤ, Bool, List, [], ◌++◌, Option, Some, None}
use Rattle.std.specs.Str.{bytes_eq}
use Rattle.std.specs.Hash as fed
use Rattle.std.specs.declared.cmp.Ordering.{Ordering}
use Rattle.std.specs.declared.cmp.Ordering.TheVariants.{Less}
use Rattle.std.specs.Option.{option_eq, option_cmp}
use Rattle.std.specs.Ordering.{nat_cmp, int_cmp, int_eq, on, then_cmp, eq_of_both}
use Rattle.std.specs.Cmp.Lexicographic.{slice_cmp}
use Rattle.ev_types.specs.declared.value.Value.{Value}
use Rattle.ev_types.specs.declared.value.Value.TheVariants.{Nil, Number, Text}
use Rattle.ev_types.specs.declared.value.ValueRef.{ValueRef}
use Rattle.ev_types.specs.declared.value.ValueRef.TheVariants.{Nil as nil_ref, Number as number_ref, Text as text_ref}

-- the number that a value is, where it is one
abbrev pub number_of : Value → Option ℤ
number_of Nil = None
number_of (Number n) = Some n
number_of (Text t) = None

-- the text that a value is, where it is one
abbrev pub text_of : Value → Option (List ℕ)
text_of Nil = None
text_of (Number n) = None
text_of (Text t) = Some t

-- the same number or the same bytes; nil equals nil, and a number never equals a text
abbrev pub same_value : Value → Value → Bool
same_value = eq_of_both (on text_of (option_eq bytes_eq)) (on number_of (option_eq int_eq))

-- nil comes first, then the numbers, then the texts by their bytes
abbrev pub value_cmp : Value → Value → Ordering
value_cmp = then_cmp (on text_of (option_cmp (slice_cmp nat_cmp))) (on number_of (option_cmp int_cmp))

-- a lent value as a value
abbrev pub referred : ValueRef → Value
referred nil_ref = Nil
referred (number_ref n) = Number n
referred (text_ref t) = Text t.now

-- what a value feeds a hasher
abbrev pub text_input : Option (List ℕ) → fed.HashWrites
text_input None = []
text_input (Some text) = fed.str text

abbrev pub number_input : Option ℤ → fed.HashWrites
number_input None = []
number_input (Some number) = fed.i64 number

abbrev pub value_input : Value → fed.HashWrites
value_input value = text_input (text_of value) ++ number_input (number_of value)

-- two values are equal exactly where they are of the same kind and have the same number or bytes
abbrev pub SameValuesAreEqual : Type 0
SameValuesAreEqual = (a b : Value) → IsTrue (same_value a b) ↔ (a ≡ b)

-- nil comes first, then the numbers, then the texts by their bytes
pub record ValuesAreOrdered : Type 0 where
  pub number_after_nothing : (n : ℤ) → value_cmp Nil (Number n) ≡ Less
  pub text_after_nothing : (t : List ℕ) → value_cmp Nil (Text t) ≡ Less
  pub text_after_number : (n : ℤ) (t : List ℕ) → value_cmp (Number n) (Text t) ≡ Less
  pub numbers : (m n : ℤ) → value_cmp (Number m) (Number n) ≡ int_cmp m n
  pub texts : (s t : List ℕ) → value_cmp (Text s) (Text t) ≡ slice_cmp nat_cmp s t
