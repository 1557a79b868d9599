-- A form is read as a text, a number, a value or a field exactly where it represents this one.
use Rattle.std.proofs.Common.{◌≡◌, ℕ, List, Some, Ok, refl}
use Rattle.ev_types.specs.declared.field.Field.{Field}
use Rattle.ev_types.specs.Names.{named_field}
use Rattle.sexp_read.specs.Tree.{FormTree}
use Rattle.sexp_read.specs.Written.{BareTree, bare_tree}
use Rattle.config_terms.specs.declared.binding.Bound.TheVariants as bound
use Rattle.config_terms.specs.Arguments.{Env, Argument, Keyword}
use Rattle.config_terms.specs.Arguments.{argument_of, field_in, text_at, number_at, value_at, field_at}
use Rattle.config_terms.specs.Grammar.{IsValue}
use Rattle.config_terms.specs.Terms.{IsField, a_field, TextsAreRead, NumbersAreRead, ValuesAreRead, FieldsAreRead}
use Rattle.config_terms.proofs.Outcomes.{OkGood, SomeGood, some_from, ok_read}
use Rattle.config_terms.proofs.GrammarRead.{literal_read, text_read, number_read, value_read}
use Rattle.config_terms.proofs.GrammarOnly.{TextIs, NumberIs, Meaning, taken_means, text_means, number_means}
use Rattle.config_terms.proofs.GrammarOnly.{value_means}

pub texts_are_read : TextsAreRead
texts_are_read env f text = (
  (λ is. text_read env f text (literal_read env (bare_tree f) (bound.Text text) is f refl)),
  (λ is. ok_read (TextIs env (bare_tree f)) (text_at env f) text is (text_means env f)),
)

pub numbers_are_read : NumbersAreRead
numbers_are_read env f number = (
  (λ is. number_read env f number (literal_read env (bare_tree f) (bound.Number number) is f refl)),
  (λ is. ok_read (NumberIs env (bare_tree f)) (number_at env f) number is (number_means env f)),
)

pub values_are_read : ValuesAreRead
values_are_read env f held = (
  (λ is. value_read env (bare_tree f) held is f refl),
  (λ is. ok_read (IsValue env (bare_tree f)) (value_at env f) held is (value_means env f)),
)

pub keyword_field : (env : Env) (f : FormTree) (name : List ℕ) (field : Field) → argument_of env f ≡ Keyword name
    → named_field name ≡ Some field → field_at env f ≡ Ok field
unfolding field_at
keyword_field env f name field at is = rw (at, is) refl

pub field_read : (env : Env) (form : BareTree) (field : Field) → IsField env form field → (f : FormTree)
    → bare_tree f ≡ form → field_at env f ≡ Ok field
field_read env form field (a_field {name = name} literal is) f h =
    keyword_field env f name field (literal_read env form (bound.Keyword name) literal f h) is

field_in_means : (env : Env) (form : BareTree) (given : Argument) → Meaning env form given
    → SomeGood (IsField env form) (field_in given)
field_in_means env form (Keyword name) means =
    some_from (IsField env form) (named_field name) (λ field is. a_field means is)
field_in_means env form given means = tt

pub field_means : (env : Env) (f : FormTree) → OkGood (IsField env (bare_tree f)) (field_at env f)
unfolding field_at
field_means env f = taken_means (IsField env (bare_tree f)) field_in env f (field_in_means env (bare_tree f))

pub fields_are_read : FieldsAreRead
fields_are_read env f field = (
  (λ is. field_read env (bare_tree f) field is f refl),
  (λ is. ok_read (IsField env (bare_tree f)) (field_at env f) field is (field_means env f)),
)
