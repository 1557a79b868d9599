-- Predicates.
use Rattle.std.specs.Prelude.{ℕ, ◌||◌, if◌then◌else◌, List, [], ◌∷◌, Option, Some, None, Result, Ok, Err}
use Rattle.std.specs.Str.{bytes_eq}
use Rattle.ev_types.specs.declared.field.Field.{Field}
use Rattle.pred_eval.specs.Tree.{Tree, Trees, Always, Never, Not, All, Any, Tagged, Equal, Order, Wild, Search}
use Rattle.pred_eval.specs.declared.rule.Ordering.{Ordering}
use Rattle.pred_eval.specs.Tree as pred
use Rattle.sexp_read.specs.declared.piece.Bracket.TheVariants.{Round}
use Rattle.sexp_read.specs.Tree.{FormTree, FormTrees, Single, Group, none, also}
use Rattle.sexp_read.specs.declared.piece.Atom.TheVariants as form
use Rattle.config_terms.specs.declared.binding.Bound.{Bound}
use Rattle.config_terms.specs.declared.fault.ConfigWhy.TheVariants as why
use Rattle.config_terms.specs.declared.word.RuleWord.{RuleWord}
use Rattle.config_terms.specs.declared.word.RuleWord.TheVariants as rule
use Rattle.config_terms.specs.Steps.{Fault, ◌>>=◌, start_of, argument, at_most}
use Rattle.ev_types.specs.Names.{named_field, protocol_field}
use Rattle.config_terms.specs.Words.{true_text, false_text, nil_text, rule_word}
use Rattle.config_terms.specs.Arguments.{Env, bound_value, Argument, Pattern, argument_of, text_at, field_at, number_at}
use Rattle.config_terms.specs.Arguments.{value_at}

-- ---- a predicate of one word

-- a symbol that is bound is not a predicate, and one that is not bound has no meaning
abbrev pub no_form : ℕ → Option Bound → Fault
no_form place None = (place, why.Name)
no_form place (Some bound) = (place, why.Form)

abbrev pub symbol_rule : Env → List ℕ → ℕ → Result Tree Fault
symbol_rule env name start =
    if bytes_eq name true_text then Ok Always
    else (if bytes_eq name false_text || bytes_eq name nil_text then Ok Never
    else Err (no_form start (bound_value name env)))

-- ---- the field that a predicate speaks of

-- a symbol there is the name of a field, whatever it is bound to
abbrev pub known_field : ℕ → Option Field → Result Field Fault
known_field start None = Err (start, why.Name)
known_field start (Some field) = Ok field

unfoldable pub rule_field_at : FormTree → Result Field Fault
rule_field_at (Single (form.Symbol name) start last) = known_field start (protocol_field name)
rule_field_at f = field_at [] f

-- ---- what a predicate begins with

pub data Head : Type 0 where
  Word : RuleWord → Head
  Field_ : Field → Head
  Unknown : Head

abbrev pub field_head : Option Field → Head
field_head None = Unknown
field_head (Some field) = Field_ field

abbrev pub symbol_head : Option RuleWord → Option Field → Head
symbol_head (Some word) field = Word word
symbol_head None field = field_head field

unfoldable pub rule_head : FormTree → Head
rule_head (Single (form.Symbol name) start last) = symbol_head (rule_word name) (protocol_field name)
rule_head (Single (form.Keyword name) start last) = field_head (named_field name)
rule_head _ = Unknown

-- ---- predicates of predicates

abbrev pub Readings : Type 0
Readings = List (Result Tree Fault)

abbrev pub with_rule : Trees → Tree → Trees
with_rule pred.none one = pred.also one pred.none
with_rule (pred.also first rules) one = pred.also first (with_rule rules one)

unfoldable pub all_read : Trees → Readings → Result Trees Fault
all_read rules [] = Ok rules
all_read rules (reading ∷ readings) = reading >>= λ one. all_read (with_rule rules one) readings

-- one part is itself, and some part has to be there
abbrev pub joined : (Trees → Tree) → ℕ → Trees → Result Tree Fault
joined join start pred.none = Err (start, why.Arguments)
joined join start (pred.also one pred.none) = Ok one
joined join start (pred.also one (pred.also second rules)) = Ok (join (pred.also one (pred.also second rules)))

abbrev pub first_read : ℕ → Readings → Result Tree Fault
first_read start [] = Err (start, why.Arguments)
first_read start (reading ∷ readings) = reading

-- ---- tests of a field

unfoldable pub equal_rule : Env → ℕ → FormTrees → Result Tree Fault
equal_rule env start forms =
    argument start 0 forms >>= λ first.
    rule_field_at first >>= λ field.
    argument start 1 forms >>= λ second.
    value_at env second >>= λ value.
    at_most 2 forms >>= λ over.
    Ok (Equal field value)

unfoldable pub order_rule : Ordering → Env → ℕ → FormTrees → Result Tree Fault
order_rule order env start forms =
    argument start 0 forms >>= λ first.
    rule_field_at first >>= λ field.
    argument start 1 forms >>= λ second.
    number_at env second >>= λ number.
    at_most 2 forms >>= λ over.
    Ok (Order field order number)

unfoldable pub like_rule : Env → ℕ → FormTrees → Result Tree Fault
like_rule env start forms =
    argument start 0 forms >>= λ first.
    rule_field_at first >>= λ field.
    argument start 1 forms >>= λ second.
    text_at env second >>= λ text.
    at_most 2 forms >>= λ over.
    Ok (Wild field text)

unfoldable pub tagged_rule : Env → ℕ → FormTrees → Result Tree Fault
tagged_rule env start forms =
    argument start 0 forms >>= λ first.
    text_at env first >>= λ text.
    at_most 1 forms >>= λ over.
    Ok (Tagged text)

-- a field before a pattern or a value
abbrev pub sought : Env → Field → FormTree → Argument → Result Tree Fault
sought env field f (Pattern text) = Ok (Search field text)
sought env field f given = value_at env f >>= λ value. Ok (Equal field value)

unfoldable pub field_rule : Env → Field → ℕ → FormTrees → Result Tree Fault
field_rule env field start forms =
    argument start 0 forms >>= λ first.
    sought env field first (argument_of env first) >>= λ tree.
    at_most 1 forms >>= λ over.
    Ok tree

-- ---- all predicates

-- a predicate of the word at the place, with these arguments, which are these as predicates
unfoldable pub word_rule : Env → RuleWord → ℕ → FormTrees → Readings → Result Tree Fault
word_rule env rule.And start forms readings = all_read pred.none readings >>= joined All start
word_rule env rule.Or start forms readings = all_read pred.none readings >>= joined Any start
word_rule env rule.Not start forms readings =
    first_read start readings >>= λ one. at_most 1 forms >>= λ over. Ok (Not one)
word_rule env rule.Tagged start forms readings = tagged_rule env start forms
word_rule env rule.Equal start forms readings = equal_rule env start forms
word_rule env rule.NotEqual start forms readings = equal_rule env start forms >>= λ one. Ok (Not one)
word_rule env (rule.Order order) start forms readings = order_rule order env start forms
word_rule env rule.Like start forms readings = like_rule env start forms

abbrev pub headed_rule : Env → Head → ℕ → FormTrees → Readings → Result Tree Fault
headed_rule env (Word word) start forms readings = word_rule env word start forms readings
headed_rule env (Field_ field) start forms readings = field_rule env field start forms
headed_rule env Unknown start forms readings = Err (start, why.Form)

-- the predicate that a form is, and what each of some forms is as a predicate
unfoldable mutual
  pub rule_at : Env → FormTree → Result Tree Fault
  rule_at env (Single (form.Symbol name) start last) = symbol_rule env name start
  rule_at env (Group Round (also head forms) start last) =
      headed_rule env (rule_head head) start forms (rules_in env forms)
  rule_at env f = Err (start_of f, why.Form)

  pub rules_in : Env → FormTrees → Readings
  rules_in env none = []
  rules_in env (also f forms) = rule_at env f ∷ rules_in env forms
